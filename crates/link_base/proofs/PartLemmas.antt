-- Tables in two parts.
use Rattle.std.proofs.Common.{◌≡◌, ℕ, Bool, true, false, cond, List, [], ◌∷◌, Option, Some, None, refl}
use Rattle.std.specs.Prelude.{nat_le, ◌==◌}
use Rattle.link_base.specs.Table.{Row, row_at}
use Rattle.link_base.specs.Parts.{up_to, above}

-- no row here, and none later
passed : {C : Type 0} (here : Bool) (r : Row C) (first all : Option (Row C)) → cond here (Some r) first ≡ None → (first ≡ None → all ≡ None) → cond here (Some r) all ≡ None
passed true r first all e next = absurd cc
passed false r first all e next = next e

-- the same with a first row, which is in the first part or not
in_part : {C : Type 0} (within : Bool) (last : ℕ) (r : Row C) (rows : List (Row C)) (k : ℕ) → row_at (cond within (r ∷ up_to last rows) []) k ≡ None → row_at (cond within (above last rows) (r ∷ rows)) k ≡ None
    → (row_at (up_to last rows) k ≡ None → row_at (above last rows) k ≡ None → row_at rows k ≡ None) → row_at (r ∷ rows) k ≡ None
in_part true last r rows k a b others = passed (r.kind == k) r _ _ a (λ e. others e b)
in_part false last r rows k a b others = b

-- a type of which neither part has a row has none
pub no_row : {C : Type 0} (last : ℕ) (rows : List (Row C)) (k : ℕ) → row_at (up_to last rows) k ≡ None → row_at (above last rows) k ≡ None → row_at rows k ≡ None
no_row last [] k a b = refl
no_row last (r ∷ rows) k a b = in_part (nat_le r.kind last) last r rows k a b (no_row last rows k)
