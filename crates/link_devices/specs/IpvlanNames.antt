-- The names of numbers and flags in the attributes of IPVLAN devices.
use Rattle.std.specs.Prelude.{ℕ, List, [], ◌∷◌, codes}

-- the numbers of `enum ipvlan_mode`, and their names without IPVLAN_MODE_, as `ip` prints them
abbrev pub ipvlan_mode_names : List (ℕ × List ℕ)
ipvlan_mode_names = (0, codes "l2") ∷ (1, codes "l3") ∷ (2, codes "l3s") ∷ []

-- the bits of IPVLAN_F_.., and their names
abbrev pub ipvlan_flags_names : List (ℕ × List ℕ)
ipvlan_flags_names = (1, codes "PRIVATE") ∷ (2, codes "VEPA") ∷ []
