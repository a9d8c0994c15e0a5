-- What is known of attribute types besides their payloads, as functions return it.
use Rattle.std.specs.Prelude.{ℕ, ◌==◌, List, [], ◌∷◌, map, Option, Some, None, if◌then◌else◌}
use Rattle.link_base.specs.declared.rows.label.Name.{Name}
use Rattle.link_base.specs.declared.rows.label.KindLabel.{KindLabel}
use Rattle.link_base.specs.declared.rows.fields.Field.{Field}
use Rattle.link_base.specs.Fields.{FieldRow}
use Rattle.link_base.specs.Table.{Label, label_with}

-- a name, with its number
abbrev pub named : Name → ℕ × List ℕ
named x = (x.number, x.text.now)

-- names, each with its number
abbrev pub names_in : List Name → List (ℕ × List ℕ)
names_in names = map named names

-- the name of a number, or of a bit
abbrev pub name_in : List (ℕ × List ℕ) → ℕ → Option (List ℕ)
name_in [] n = None
name_in (x ∷ names) n = if x.0 == n then Some x.1 else name_in names n

-- a field, as functions return it
abbrev pub field_row : Field → FieldRow
field_row f = record { name = f.name.now; offset = f.offset; quantity = f.quantity; form = f.form; names = names_in f.names.now }

abbrev pub field_rows : List Field → List FieldRow
field_rows fields = map field_row fields

-- what a `KindLabel` says
abbrev pub label_of : KindLabel → Label
label_of label = label_with label.prefix.now label.quantity label.name.now label.form (names_in label.names.now) (field_rows label.fields.now)

abbrev pub label_in : Option KindLabel → Option Label
label_in None = None
label_in (Some label) = Some (label_of label)
