-- Structs, by the kernel's names of their fields.
use Rattle.std.specs.Prelude.{ℕ, ◌+◌, ◌-◌, Bool, false, List, [], ◌∷◌, ◌++◌, map, take, drop, length, nat_lt, nat_le, codes, if◌then◌else◌}
use Rattle.std.specs.List.{list_all}
use Rattle.link_base.specs.declared.rows.form.Form.{Form}
use Rattle.link_base.specs.declared.rows.form.Form.TheVariants as forms
use Rattle.link_base.specs.declared.rows.form.Layout.{Layout}
use Rattle.link_base.specs.declared.rows.form.Layout.TheVariants as layouts
use Rattle.link_base.specs.declared.rows.form.Role.{Role}
use Rattle.link_base.specs.declared.rows.form.Role.TheVariants as roles
use Rattle.link_base.specs.declared.rows.form.Width.{Width}
use Rattle.link_base.specs.declared.rows.label.Quantity.{Quantity}
use Rattle.link_base.specs.Fields.{FieldRow, names_for}
use Rattle.link_base.specs.Forms.{bytes_in}
use Rattle.link_base.specs.Orders.{number_by}
use Rattle.link_base.specs.Payloads.{u32, u32_flags, field as number_field, limit_fields}
use Rattle.link_base.specs.Structs.{form_width}
use Rattle.link_show.specs.Text.{joined}
use Rattle.link_show.specs.Number.{number_text}
use Rattle.link_show.specs.Flags.{enum_text, flags_text}
use Rattle.link_show.specs.Octets.{address_text, hex_text}
use Rattle.link_show.specs.Quoted.{quoted}

-- the name of a field, and its text
abbrev pub field : List ℕ → List ℕ → List ℕ
field name text = name ++ (codes " " ++ text)

-- two fields
abbrev pub two_fields : List ℕ → List ℕ → List ℕ
two_fields first second = first ++ (codes " " ++ second)

-- ---- a field of a table

-- a number, by what it says
abbrev pub role_text : List (ℕ × List ℕ) → Quantity → Role → Width → ℕ → List ℕ
role_text names q roles.Plain width n = number_text q n
role_text names q roles.Flags width n = flags_text names (bytes_in width) n
role_text names q role width n = enum_text names n

-- what the bytes of a field say, by its form
abbrev pub form_text : List (ℕ × List ℕ) → Quantity → Form → List ℕ → List ℕ
form_text names q (forms.Number w order role) bytes = role_text names q role w (number_by order bytes)
form_text names q forms.Mac bytes = address_text bytes
form_text names q form bytes = hex_text bytes

-- p, the bytes of a struct from offset `start` on, has the field
abbrev pub has_field : ℕ → List ℕ → FieldRow → Bool
has_field start p f = nat_le (f.offset - start + form_width f.form) (length p)

-- the bytes of the field
abbrev pub field_in : ℕ → List ℕ → FieldRow → List ℕ
field_in start p f = take (form_width f.form) (drop (f.offset - start) p)

-- the field after its name; the names are those of the row
abbrev pub field_text : ℕ → List (ℕ × List ℕ) → List ℕ → FieldRow → List ℕ
field_text start names p f = field f.name (form_text (names_for names f.names) f.quantity f.form (field_in start p f))

-- ---- structs

abbrev pub are_within : List FieldRow → ℕ → List ℕ → Bool
are_within fields start p = list_all (has_field start p) fields

-- there are fields, and p has all of them
abbrev pub has_fields : List FieldRow → ℕ → List ℕ → Bool
has_fields [] start p = false
has_fields (f ∷ fields) start p = are_within (f ∷ fields) start p

-- fields of a struct, whose bytes from offset `start` on are p; the bytes, if there are no fields, or p lacks one of them
unfoldable pub fields_text : List FieldRow → ℕ → List (ℕ × List ℕ) → List ℕ → List ℕ
fields_text fields start names p = if has_fields fields start p then joined (codes " ") (map (field_text start names p) fields) else hex_text p

-- a bridge identifier: the priority as four digits, and the address
unfoldable pub bridge_id_text : List ℕ → List ℕ
bridge_id_text p = if nat_lt (length p) 8 then hex_text p else hex_text (take 2 p) ++ (codes "." ++ address_text (take 6 (drop 2 p)))

-- the struct that p starts with, with these fields
abbrev pub struct_text : Layout → List FieldRow → List (ℕ × List ℕ) → List ℕ → List ℕ
struct_text layouts.BridgeId fields names p = bridge_id_text p
struct_text layout fields names p = fields_text fields 0 names p

-- two consecutive numbers
abbrev pub pair_fields : List FieldRow
pair_fields = number_field "from" 0 u32 ∷ number_field "to" 4 u32 ∷ []

-- a set of flags, and which of them count
abbrev pub masked_fields : List FieldRow
masked_fields = number_field "flags" 0 (u32_flags []) ∷ number_field "mask" 4 (u32_flags []) ∷ []

-- the limits of a CAN controller: its name, and the bytes of the numbers, which follow those of the name
abbrev pub limits_text : List ℕ → List ℕ → List ℕ
limits_text name p = two_fields (field (codes "name") (quoted name)) (fields_text limit_fields 16 [] p)
