-- The state of one side of an LACP link: its flags and their bits.
use Rattle.std.specs.Prelude.{◌≡◌, ◌-◌, ◌^◌, ℕ, List, [], ◌∷◌, codes, refl}
use Rattle.bitflags.specs.Sets.{Row, known_from, known_bits}
use Rattle.link_bond.specs.declared.bond_port.lacp_state.LacpState.{LacpState}

-- the bits of a set of flags
abbrev pub lacp_bits : LacpState → ℕ
lacp_bits state = state.0

-- LACP_STATE_LACP_ACTIVITY and the other flags
abbrev pub lacp_flags : List Row
lacp_flags =
    (codes "LACP_ACTIVITY", 1) ∷
    (codes "LACP_TIMEOUT", 2) ∷
    (codes "AGGREGATION", 4) ∷
    (codes "SYNCHRONIZATION", 8) ∷
    (codes "COLLECTING", 16) ∷
    (codes "DISTRIBUTING", 32) ∷
    (codes "DEFAULTED", 64) ∷
    (codes "EXPIRED", 128) ∷ []

-- the bits with the kernel's names, without LACP_STATE_
abbrev pub lacp_bit_names : List (ℕ × List ℕ)
lacp_bit_names =
    (1, codes "LACP_ACTIVITY") ∷
    (2, codes "LACP_TIMEOUT") ∷
    (4, codes "AGGREGATION") ∷
    (8, codes "SYNCHRONIZATION") ∷
    (16, codes "COLLECTING") ∷
    (32, codes "DISTRIBUTING") ∷
    (64, codes "DEFAULTED") ∷
    (128, codes "EXPIRED") ∷ []

-- every bit has a name
pub every_lacp_bit : known_bits lacp_flags ≡ 2 ^ 8 - 1
unfolding known_from
every_lacp_bit = refl
