-- A bridge VLAN: the names and bits of its flags, what payloads mean, and the bytes of values.
use Rattle.std.specs.Prelude.{◌≡◌, ◌-◌, ◌^◌, ℕ, List, [], ◌∷◌, codes, refl}
use Rattle.bitflags.specs.Sets.{Row, known_from, known_bits}
use Rattle.link_base.specs.Layout.{number_at}
use Rattle.link_base.specs.Class.{Value, Number}
use Rattle.link_base.specs.Fields.{FieldRow}
use Rattle.link_base.specs.Structs.{packed}
use Rattle.link_base.specs.Payloads.{u16, u16_flags, field}
use Rattle.link_bridge.specs.declared.af_spec.vlan_info_flags.BridgeVlanInfoFlags.{BridgeVlanInfoFlags}
use Rattle.link_bridge.specs.declared.af_spec.vlan_info.BridgeVlanInfo.{BridgeVlanInfo}

-- the bits of a set of flags
abbrev pub vlan_info_bits : BridgeVlanInfoFlags → ℕ
vlan_info_bits flags = flags.0

-- BRIDGE_VLAN_INFO_MASTER and the other flags, then an unnamed flag with all bits
abbrev pub vlan_info_flags : List Row
vlan_info_flags =
    (codes "Controller", 1) ∷
    (codes "Pvid", 2) ∷
    (codes "Untagged", 4) ∷
    (codes "RangeBegin", 8) ∷
    (codes "RangeEnd", 16) ∷
    (codes "Brentry", 32) ∷
    (codes "OnlyOpts", 64) ∷
    ([], 2 ^ 16 - 1) ∷ []

-- the bits with the kernel's names, without BRIDGE_VLAN_INFO_
abbrev pub vlan_info_bit_names : List (ℕ × List ℕ)
vlan_info_bit_names =
    (1, codes "MASTER") ∷
    (2, codes "PVID") ∷
    (4, codes "UNTAGGED") ∷
    (8, codes "RANGE_BEGIN") ∷
    (16, codes "RANGE_END") ∷
    (32, codes "BRENTRY") ∷
    (64, codes "ONLY_OPTS") ∷ []

-- every bit is known
pub every_vlan_info_bit : known_bits vlan_info_flags ≡ 2 ^ 16 - 1
unfolding known_from
every_vlan_info_bit = refl

-- the VLAN in a payload: the flags, then the ID
abbrev pub vlan_info_of : List ℕ → BridgeVlanInfo
vlan_info_of p = record { flags = record { 0 = number_at 2 0 p }; vid = number_at 2 2 p }

-- its fields as they are shown, and what they hold as they lie; the names of the bits are those of the row
abbrev pub vlan_info_fields : List FieldRow
vlan_info_fields = field "vid" 2 u16 ∷ field "flags" 0 (u16_flags []) ∷ []

abbrev pub vlan_info_held : BridgeVlanInfo → List Value
vlan_info_held info = Number 2 (vlan_info_bits info.flags) ∷ Number 2 info.vid ∷ []

-- the bytes of a VLAN
abbrev pub vlan_info_octets : BridgeVlanInfo → List ℕ
vlan_info_octets info = packed (vlan_info_held info)
