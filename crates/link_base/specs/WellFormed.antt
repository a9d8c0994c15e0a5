-- Well-formed tables: decidable tests that each table passes.
use Rattle.std.specs.Prelude.{ℕ, ◌+◌, ◌≤◌, ◌==◌, ◌&&◌, ◌||◌, Bool, true, false, List, [], ◌∷◌, length, map, take, Option, Some, nat_lt, nat_le}
use Rattle.std.specs.List.{list_all}
use Rattle.std.specs.Str.{bytes_eq}
use Rattle.link_base.specs.Number.{bound}
use Rattle.link_base.specs.Frame.{kind_limit}
use Rattle.link_base.specs.Class.{Extent, AtLeast, Multiple, AtMost, Class, Octets, Many, Named, Empty, Limits}
use Rattle.link_base.specs.Coherent.{is_shape_of}
use Rattle.link_base.specs.Fields.{FieldRow}
use Rattle.link_base.specs.Named.{are_distinct}
use Rattle.link_base.specs.Table.{Row, Rows, Shape, One, Nested, Addresses, Table}

-- the extent is a number of bytes, not a multiple of one, and not a maximum
abbrev pub is_record : Extent → Bool
is_record (Multiple n) = false
is_record (AtMost n) = false
is_record e = true

-- `Octets` never has the extent `Multiple` or `AtMost`, the numbers in an array have two, four or eight bytes, and each number
-- with a name fits in its bytes
abbrev pub is_class : Class → Bool
is_class (Octets e) = is_record e
is_class (Many n) = n == 2 || (n == 4 || n == 8)
is_class (Named n listed) = list_all (λ d. nat_lt d (bound n)) listed
is_class c = true

-- the written payload is as long as the payload that was decoded
abbrev pub is_kept : Class → Bool
is_kept (Octets (AtLeast n)) = false
is_kept (Octets (Multiple n)) = false
is_kept (Octets (AtMost n)) = false
is_kept Empty = false
is_kept Limits = false
is_kept c = true

-- rows of strictly increasing attribute types below `kind_limit`, each of which passes a test
abbrev pub are_rows : {C : Type 0} → (Row C → Bool) → ℕ → List (Row C) → Bool
are_rows test least [] = true
are_rows test least (r ∷ rows) = nat_le least r.kind && (nat_lt r.kind kind_limit && (test r && are_rows test (r.kind + 1) rows))

-- a class that a row of a nested list may have: the written payload is as long as the decoded one
abbrev pub is_nested_class : Class → Bool
is_nested_class c = is_class c && is_kept c

-- a single value, a nested list whose rows keep the length of payloads, or addresses of 4 or 16 bytes
abbrev pub is_shape : Shape → Bool
is_shape (One c) = is_class c
is_shape (Nested flagged rows) = are_rows (λ r. is_nested_class r.class) 0 rows
is_shape (Addresses n) = n == 4 || n == 16

-- a printable ASCII character
abbrev pub is_printable : ℕ → Bool
is_printable b = nat_lt 31 b && nat_lt b 127

-- the names of numbers or bits are printable
abbrev pub are_names : List (ℕ × List ℕ) → Bool
are_names names = list_all (λ x. list_all is_printable x.1) names

-- the names of fields are printable and distinct, and so are those of their numbers or bits
abbrev pub are_fields : List FieldRow → Bool
are_fields fields = list_all (λ f. list_all is_printable f.name && are_names f.names) fields && are_distinct bytes_eq (map (λ f. f.name) fields)

-- the name of a row begins with the prefix and is printable, and so are those of its numbers or bits, and of its fields
abbrev pub has_text : {C : Type 0} → Row C → Bool
has_text r = bytes_eq (take (length r.prefix) r.name) r.prefix && (list_all is_printable r.name && (are_names r.names && are_fields r.fields))

-- the rows of nested lists
abbrev pub rows_in : Shape → Rows
rows_in (One c) = []
rows_in (Nested flagged rows) = rows
rows_in (Addresses n) = []

-- such a shape, which goes with the form, and printable names
abbrev pub is_row : Row Shape → Bool
is_row r = is_shape r.class && (is_shape_of r.form r.names r.class && (has_text r && list_all has_text (rows_in r.class)))

-- the table is well formed
abbrev pub is_table : Table → Bool
is_table table = are_rows is_row 0 table

-- a nested list in a payload of 65529 bytes or more: its last element lacks padding, and with it there would be 65532
abbrev pub IsOverfull : Option Shape → List ℕ → Type 0
IsOverfull (Some (Nested flagged rows)) p = 65529 ≤ length p
IsOverfull shape p = ⊥
