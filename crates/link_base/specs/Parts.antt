-- A table in two parts, for sets whose rows are too many for one `match`.
use Rattle.std.specs.Prelude.{ℕ, nat_le, List, [], ◌∷◌, if◌then◌else◌}
use Rattle.link_base.specs.Table.{Row}

-- the first rows, of the attribute types up to `last`
abbrev pub up_to : {C : Type 0} → ℕ → List (Row C) → List (Row C)
up_to last [] = []
up_to last (r ∷ rows) = if nat_le r.kind last then r ∷ up_to last rows else []

-- the rows after these
abbrev pub above : {C : Type 0} → ℕ → List (Row C) → List (Row C)
above last [] = []
above last (r ∷ rows) = if nat_le r.kind last then above last rows else r ∷ rows
