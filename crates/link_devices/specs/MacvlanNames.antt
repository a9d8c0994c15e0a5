-- The names of numbers and flags in the attributes of MACVLAN devices.
use Rattle.std.specs.Prelude.{ℕ, List, [], ◌∷◌, codes}

-- the numbers of `enum macvlan_mode`, and their names without MACVLAN_MODE_, as `ip` prints them
abbrev pub macvlan_mode_names : List (ℕ × List ℕ)
macvlan_mode_names = (1, codes "private") ∷ (2, codes "vepa") ∷ (4, codes "bridge") ∷ (8, codes "passthru") ∷ (16, codes "source") ∷ []

-- the bits of MACVLAN_FLAG_.., and their names
abbrev pub macvlan_flags_names : List (ℕ × List ℕ)
macvlan_flags_names = (1, codes "NOPROMISC") ∷ (2, codes "NODST") ∷ []

-- the numbers of `enum macvlan_macaddr_mode`, and their names without MACVLAN_MACADDR_, as `ip` takes them
abbrev pub macvlan_address_mode_names : List (ℕ × List ℕ)
macvlan_address_mode_names = (0, codes "add") ∷ (1, codes "del") ∷ (2, codes "flush") ∷ (3, codes "set") ∷ []
