-- The names of numbers in the attributes of GENEVE devices.
use Rattle.std.specs.Prelude.{ℕ, List, [], ◌∷◌, codes}

-- the numbers of `enum ifla_geneve_df`, and their names without GENEVE_DF_, as `ip` prints them
abbrev pub geneve_df_names : List (ℕ × List ℕ)
geneve_df_names = (0, codes "unset") ∷ (1, codes "set") ∷ (2, codes "inherit") ∷ []
