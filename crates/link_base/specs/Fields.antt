-- The fields of structs.
use Rattle.std.specs.Prelude.{ℕ, List, [], ◌∷◌}
use Rattle.link_base.specs.declared.rows.form.Form.{Form}
use Rattle.link_base.specs.declared.rows.label.Quantity.{Quantity}

-- a field: its name in the kernel's headers, where it starts, what its number counts, the form of its value, and the names
-- of its numbers or bits, each with its number
pub record FieldRow : Type 0 where
  pub name : List ℕ
  pub offset : ℕ
  pub quantity : Quantity
  pub form : Form
  pub names : List (ℕ × List ℕ)

-- the names of the field, or those of its row if it has none
abbrev pub names_for : List (ℕ × List ℕ) → List (ℕ × List ℕ) → List (ℕ × List ℕ)
names_for row [] = row
names_for row (x ∷ own) = x ∷ own
