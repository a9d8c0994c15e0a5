-- The flags of a VLAN device: their names and bits.
use Rattle.std.specs.Prelude.{◌≡◌, ◌-◌, ◌^◌, ◌==◌, ◌&&◌, ℕ, List, [], ◌∷◌, codes, refl}
use Rattle.bitflags.specs.Sets.{Row, known_from, known_bits}
use Rattle.link_base.specs.Equality.{IsThorough, wrapped, pairs, numbers}
use Rattle.link_vlan_can.specs.declared.vlan_flags.VlanFlags.{VlanFlags}

-- the bits of a set of flags
abbrev pub vlan_bits : VlanFlags → ℕ
vlan_bits flags = flags.0

-- VLAN_FLAG_REORDER_HDR and the other flags, then an unnamed flag with all bits
abbrev pub vlan_flags : List Row
vlan_flags = (codes "ReorderHdr", 1) ∷ (codes "Gvrp", 2) ∷ (codes "LooseBinding", 4) ∷ (codes "Mvrp", 8)
    ∷ (codes "BridgeBinding", 16) ∷ ([], 2 ^ 32 - 1) ∷ []

-- the bits with the kernel's names, without VLAN_FLAG_
abbrev pub vlan_bit_names : List (ℕ × List ℕ)
vlan_bit_names =
    (1, codes "REORDER_HDR") ∷
    (2, codes "GVRP") ∷
    (4, codes "LOOSE_BINDING") ∷
    (8, codes "MVRP") ∷
    (16, codes "BRIDGE_BINDING") ∷ []

-- every bit is known
pub every_vlan_bit : known_bits vlan_flags ≡ 2 ^ 32 - 1
unfolding known_from
every_vlan_bit = refl

-- `==` of flags and a mask compares both
pub masked : IsThorough (λ (a b : VlanFlags × VlanFlags). a.0.0 == b.0.0 && a.1.0 == b.1.0) (λ (a : VlanFlags × VlanFlags). a)
masked = wrapped
    (λ (m : VlanFlags × VlanFlags). (m.0.0, m.1.0))
    (λ (x : ℕ × ℕ). (record { 0 = x.0 }, record { 0 = x.1 }))
    (λ _. refl) (pairs numbers numbers)
