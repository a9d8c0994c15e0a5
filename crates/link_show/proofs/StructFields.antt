-- The fields of structs, from the table of fields.
use Rattle.std.proofs.Common.{◌≡◌, ℕ, zero, suc, ◌<◌, true, List, [], ◌∷◌, length, slice_index_or, arith}
use Rattle.std.proofs.lemmas.Bool.{and_parts}
use Rattle.link_base.specs.declared.rows.fields.Field.{Field}
use Rattle.link_base.specs.Fields.{FieldRow}
use Rattle.link_base.specs.Labels.{field_row, field_rows}
use Rattle.link_show.specs.Structs.{has_field, are_within, has_fields}

-- each field is there, if all are
pub field_there : (fields : List Field) (i : ℕ) (d : Field) (start : ℕ) (p : List ℕ) → i < length fields → are_within (field_rows fields) start p ≡ true → has_field start p (field_row (slice_index_or fields i d)) ≡ true
field_there [] i d start p h all = absurd (omega (arith, h))
field_there (f ∷ fields) zero d start p h all = (and_parts (has_field start p (field_row f)) (are_within (field_rows fields) start p) all).0
field_there (f ∷ fields) (suc i) d start p h all = field_there fields i d start p (omega (arith, h)) (and_parts (has_field start p (field_row f)) (are_within (field_rows fields) start p) all).1

-- all are there, if there are any
pub all_within : (fields : List FieldRow) (start : ℕ) (p : List ℕ) → has_fields fields start p ≡ true → are_within fields start p ≡ true
all_within [] start p h = absurd cc
all_within (f ∷ fields) start p h = h
