-- Boolean options of a bridge: their names and bits, what payloads mean, and the bytes of values.
use Rattle.std.specs.Prelude.{◌≡◌, ◌-◌, ◌^◌, ℕ, List, [], ◌∷◌, codes, refl}
use Rattle.bitflags.specs.Sets.{Row, known_from, known_bits}
use Rattle.link_base.specs.Layout.{number_at}
use Rattle.link_base.specs.Class.{Value, Number}
use Rattle.link_base.specs.Fields.{FieldRow}
use Rattle.link_base.specs.Structs.{packed}
use Rattle.link_base.specs.Payloads.{u32_flags, field}
use Rattle.link_bridge.specs.declared.bridge_boolopt.flags.BridgeBooleanOptionFlags.{BridgeBooleanOptionFlags}
use Rattle.link_bridge.specs.declared.bridge_boolopt.BridgeBooleanOptions.{BridgeBooleanOptions}

-- the bits of a set of flags
abbrev pub option_bits : BridgeBooleanOptionFlags → ℕ
option_bits flags = flags.0

-- BR_BOOLOPT_NO_LL_LEARN and the other flags, then an unnamed flag with all bits
abbrev pub option_flags : List Row
option_flags =
    (codes "NoLinkLocalLearn", 1) ∷
    (codes "VlanMulticastSnooping", 2) ∷
    (codes "MstEnable", 4) ∷
    (codes "MdbOffloadFailNotif", 8) ∷
    (codes "FdbLocalVlan0", 16) ∷
    ([], 2 ^ 32 - 1) ∷ []

-- the bits with the kernel's names, without BR_BOOLOPT_
abbrev pub option_bit_names : List (ℕ × List ℕ)
option_bit_names =
    (1, codes "NO_LL_LEARN") ∷
    (2, codes "MCAST_VLAN_SNOOPING") ∷
    (4, codes "MST_ENABLE") ∷
    (8, codes "MDB_OFFLOAD_FAIL_NOTIFICATION") ∷
    (16, codes "FDB_LOCAL_VLAN_0") ∷ []

-- every bit is known
pub every_option_bit : known_bits option_flags ≡ 2 ^ 32 - 1
unfolding known_from
every_option_bit = refl

-- the options at an offset
abbrev pub options_at : ℕ → List ℕ → BridgeBooleanOptionFlags
options_at offset p = record { 0 = number_at 4 offset p }

-- the options in a payload: the values, then the mask
abbrev pub options_of : List ℕ → BridgeBooleanOptions
options_of p = record { value = options_at 0 p; mask = options_at 4 p }

-- their fields, and what they hold; the names of the bits are those of the row
abbrev pub options_fields : List FieldRow
options_fields = field "value" 0 (u32_flags []) ∷ field "mask" 4 (u32_flags []) ∷ []

abbrev pub options_held : BridgeBooleanOptions → List Value
options_held options = Number 4 (option_bits options.value) ∷ Number 4 (option_bits options.mask) ∷ []

-- the bytes of options
abbrev pub options_octets : BridgeBooleanOptions → List ℕ
options_octets options = packed (options_held options)
