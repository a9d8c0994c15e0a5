-- The states of CAN controllers.
use Rattle.std.specs.Prelude.{ℕ, List, [], ◌∷◌, codes}

-- the numbers of `enum can_state`, and their names without CAN_STATE_, as `ip` prints them
abbrev pub can_state_names : List (ℕ × List ℕ)
can_state_names =
    (0, codes "ERROR-ACTIVE") ∷
    (1, codes "ERROR-WARNING") ∷
    (2, codes "ERROR-PASSIVE") ∷
    (3, codes "BUS-OFF") ∷
    (4, codes "STOPPED") ∷
    (5, codes "SLEEPING") ∷ []
