-- Structs: fields one behind the other, each with a class of payloads.
use Rattle.std.specs.Prelude.{◌≡◌, ℕ, ◌+◌, ◌-◌, ◌==◌, ◌&&◌, Bool, true, false, List, [], ◌∷◌, map, take, drop, Option, Some, None, nat_lt, if◌then◌else◌}
use Rattle.std.specs.List.{list_all, flat_map}
use Rattle.link_base.specs.Class.{Class, Value, Unsigned, Signed, Octets, Named, Exactly, extent, size_of, meant, written}
use Rattle.link_base.specs.declared.rows.form.Form.{Form}
use Rattle.link_base.specs.Payloads.{class_by, is_fixed}
use Rattle.link_base.specs.Fields.{FieldRow, names_for}

-- how many bytes a field of this class has
abbrev pub width_of : Class → ℕ
width_of c = size_of (extent c)

-- how many bytes are written for values of this form; 0 if it has several sizes
abbrev pub form_width : Form → ℕ
form_width form = if is_fixed form then width_of (class_by form []) else 0

-- how many bytes fields of these classes have
abbrev pub total : List Class → ℕ
total [] = 0
total (c ∷ classes) = width_of c + total classes

-- what the fields at the front of p hold
abbrev pub values_along : List Class → List ℕ → List Value
values_along [] p = []
values_along (c ∷ classes) p = meant c (take (width_of c) p) ∷ values_along classes (drop (width_of c) p)

-- the bytes of fields that hold these values
abbrev pub packed : List Value → List ℕ
packed values = flat_map written values

-- each payload of so many bytes is what is written for its value
abbrev pub is_exact : Class → Bool
is_exact (Unsigned n) = true
is_exact Signed = true
is_exact (Named n listed) = true
is_exact (Octets (Exactly n)) = true
is_exact c = false

-- fields of these classes are all of a struct of n bytes
abbrev pub is_whole : List Class → ℕ → Bool
is_whole classes n = list_all is_exact classes && (total classes == n)

-- the class of the field that starts at an offset
abbrev pub class_from : List Class → ℕ → Option Class
class_from [] at = None
class_from (c ∷ classes) at = if at == 0 then Some c else if nat_lt at (width_of c) then None else class_from classes (at - width_of c)

-- the class of a field of a row with these names
abbrev pub field_class : List (ℕ × List ℕ) → FieldRow → Class
field_class names f = class_by f.form (names_for names f.names)

-- the classes of fields, if all are shown in the order in which they lie
abbrev pub classes_in : List (ℕ × List ℕ) → List FieldRow → List Class
classes_in names fields = map (field_class names) fields

-- each of the fields that are shown is one of those with these classes
abbrev pub ArePlaced : List (ℕ × List ℕ) → List FieldRow → List Class → Type 0
ArePlaced names fields classes = map (λ f. class_from classes f.offset) fields ≡ map (λ f. Some (field_class names f)) fields
