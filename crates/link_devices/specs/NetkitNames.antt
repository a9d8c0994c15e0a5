-- The names of numbers in the attributes of NETKIT devices.
use Rattle.std.specs.Prelude.{ℕ, List, [], ◌∷◌, codes}

-- NETKIT_PASS and NETKIT_DROP of `enum netkit_action`, and their names as `ip` prints them
abbrev pub netkit_policy_names : List (ℕ × List ℕ)
netkit_policy_names = (0, codes "forward") ∷ (2, codes "blackhole") ∷ []

-- the numbers of `enum netkit_mode`, and their names without NETKIT_, as `ip` prints them
abbrev pub netkit_mode_names : List (ℕ × List ℕ)
netkit_mode_names = (0, codes "l2") ∷ (1, codes "l3") ∷ []

-- the numbers of `enum netkit_scrub`, and their names without NETKIT_SCRUB_, as `ip` prints them
abbrev pub netkit_scrub_names : List (ℕ × List ℕ)
netkit_scrub_names = (0, codes "none") ∷ (1, codes "default") ∷ []
