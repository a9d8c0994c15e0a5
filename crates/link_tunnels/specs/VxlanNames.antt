-- The names of numbers in the attributes of VXLAN devices.
use Rattle.std.specs.Prelude.{ℕ, List, [], ◌∷◌, codes}

-- the numbers of `enum ifla_vxlan_df`, and their names without VXLAN_DF_, as `ip` prints them
abbrev pub vxlan_df_names : List (ℕ × List ℕ)
vxlan_df_names = (0, codes "unset") ∷ (1, codes "set") ∷ (2, codes "inherit") ∷ []

-- the numbers of `enum ifla_vxlan_label_policy`, and their names without VXLAN_LABEL_
abbrev pub label_policy_names : List (ℕ × List ℕ)
label_policy_names = (0, codes "fixed") ∷ (1, codes "inherit") ∷ []
