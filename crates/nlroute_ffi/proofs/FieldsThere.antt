-- The struct that an entry encodes to has each field of its attribute type.
use Rattle.std.proofs.Common.{◌≡◌, ℕ, zero, suc, ◌+◌, ◌-◌, ◌<◌, ◌≤◌, ◌==◌, ◌&&◌, Bool, true, false, List, [], ◌∷◌, length, slice_get, slice_index_or, Option, Some, None, option_map, Result, Ok, Err, refl, sym, ap, subst, ◌∙◌, arith}
use Rattle.std.specs.Prelude.{nat_le, nat_lt}
use Rattle.std.specs.List.{list_all}
use Rattle.std.proofs.lemmas.Bool.{and_parts, eqb-true, ltb-true, leb-true, le-leb}
use Rattle.std.proofs.lemmas.Option.{slice_get-map, slice_get-get_or}
use Rattle.link_base.specs.declared.rows.fields.Field.{Field}
use Rattle.link_base.specs.declared.rows.form.Form.{Form}
use Rattle.link_base.specs.declared.rows.form.Form.TheVariants as forms
use Rattle.link_base.specs.Class.{extent, length_cause, size_of}
use Rattle.link_base.specs.Fields.{FieldRow}
use Rattle.link_base.specs.Forms.{layout_extent}
use Rattle.link_base.specs.Labels.{field_row, field_rows}
use Rattle.link_base.specs.Payloads.{class_by}
use Rattle.link_base.specs.Structs.{form_width}
use Rattle.link_base.specs.Table.{Label}
use Rattle.link_base.proofs.ClassLemmas.{size_reached}
use Rattle.netlink_packet_route.specs.declared.family.Family.{Family}
use Rattle.netlink_packet_route.specs.Family.{table_of}
use Rattle.netlink_packet_route.proofs.Families.{each_family}
use Rattle.link_show.specs.Structs.{has_field, are_within}
use Rattle.link_entries.specs.declared.entry.Entry.{Entry}
use Rattle.link_entries.specs.declared.misfit.Misfit.{Misfit}
use Rattle.link_entries.specs.Fields.{row_fields, struct_fields}
use Rattle.link_entries.specs.Payload.{form_in, payload_of}
use Rattle.nlroute_ffi.specs.declared.refusal.Refusal.{Refusal}
use Rattle.nlroute_ffi.specs.declared.refusal.Refusal.TheVariants.{Absent}
use Rattle.nlroute_ffi.specs.declared.struct_fields.StructField.{StructField}
use Rattle.nlroute_ffi.specs.Names.{own_kind}
use Rattle.nlroute_ffi.specs.Timing.{shown_fields}
use Rattle.nlroute_ffi.specs.ValueText.{with_form, own_label, fields_for, payload_by, Shows, has_elements}
use Rattle.nlroute_ffi.specs.Writing.{refusal_for}
use Rattle.nlroute_ffi.specs.StructFields.{field_form, stored_field, fields_fit, have_room, FieldIn, FieldOf, FieldBy, FieldAnswers}
use Rattle.nlroute_ffi.proofs.NameTexts.{types_pass}
use Rattle.nlroute_ffi.proofs.OwnLabels.{own_label_passes}
use Rattle.nlroute_ffi.proofs.ShownBytes.{shown_size, shown_again, struct_no_limits}

-- ---- the rows of all attribute sets

abbrev label_fits : Label → Bool
label_fits label = fields_fit label.form label.fields

none_fit : (form : Form) → fields_fit form [] ≡ true
none_fit (forms.Struct layout) = refl
none_fit form = refl

-- a list has no fields
no_fields : (form : Form) (fields : List FieldRow) → has_elements form ≡ true → fields_fit form fields ≡ true → fields ≡ []
no_fields (forms.Struct layout) fields list h = absurd cc
no_fields form [] list h = refl
no_fields form (f ∷ fields) list h = absurd cc

below_fits : (list : Label) (form : Form) → has_elements list.form ≡ true → label_fits list ≡ true → label_fits (with_form form list) ≡ true
below_fits list form is h = subst (λ fields. fields_fit form fields ≡ true) (sym (no_fields list.form list.fields is h)) (none_fit form)

types_fit : (family : Family) → types_pass label_fits (table_of family) ≡ true
types_fit family = each_family (λ family. types_pass label_fits (table_of family)) refl family

pub own_room : (family : Family) (e : Entry) (its_label : Option Label) → own_label family e ≡ Ok its_label → have_room its_label ≡ true
own_room family e None is = refl
own_room family e (Some label) is = own_label_passes label_fits types_fit below_fits family e label is

-- a test of the form of each field, and of the length of its name
abbrev is_formed : FieldRow → Bool
is_formed f = (field_form f.form == form_in (row_fields f.form)) && nat_lt (length f.name) 32

abbrev are_formed : Label → Bool
are_formed label = list_all is_formed label.fields

types_formed : (family : Family) → types_pass are_formed (table_of family) ≡ true
types_formed family = each_family (λ family. types_pass are_formed (table_of family)) refl family

one_of : (fields : List FieldRow) (i : ℕ) (f : FieldRow) → list_all is_formed fields ≡ true → slice_get fields i ≡ Some f → is_formed f ≡ true
one_of [] i f h at = absurd cc
one_of (x ∷ fields) zero f h at = let same : x ≡ f = cc in subst (λ y. is_formed y ≡ true) same (and_parts (is_formed x) (list_all is_formed fields) h).0
one_of (x ∷ fields) (suc i) f h at = one_of fields i f (and_parts (is_formed x) (list_all is_formed fields) h).1 at

pub field_formed : (family : Family) (e : Entry) (its_label : Option Label) (i : ℕ) (f : FieldRow) → own_label family e ≡ Ok its_label → slice_get (shown_fields its_label) i ≡ Some f → (field_form f.form ≡ form_in (row_fields f.form)) × (length f.name < 32)
field_formed family e None i f is at = absurd cc
field_formed family e (Some label) i f is at =
    let test = one_of label.fields i f (own_label_passes are_formed types_formed (λ list form kind h. h) family e label is) at in
    let (form, short) = and_parts (field_form f.form == form_in (row_fields f.form)) (nat_lt (length f.name) 32) test in
    (eqb-true (field_form f.form) (form_in (row_fields f.form)) form, ltb-true (length f.name) 32 short)

-- ---- the bytes of a payload

both_hold : (x y : Bool) → x ≡ true → y ≡ true → (x && y) ≡ true
both_hold true y a b = b
both_hold false y a b = absurd cc

pub all_there : (fields : List FieldRow) (n : ℕ) (p : List ℕ) → n ≤ length p → list_all (λ f. nat_le (f.offset + form_width f.form) n) fields ≡ true → are_within fields 0 p ≡ true
all_there [] n p enough h = refl
all_there (f ∷ fields) n p enough h =
    let (one, more) = and_parts (nat_le (f.offset + form_width f.form) n) (list_all (λ f. nat_le (f.offset + form_width f.form) n) fields) h in
    let low = leb-true (f.offset + form_width f.form) n one in
    both_hold (has_field 0 p f) (are_within fields 0 p) (le-leb (f.offset - 0 + form_width f.form) (length p) (omega (arith, low, enough))) (all_there fields n p enough more)

there_by : (form : Form) (fields : List FieldRow) (p : List ℕ) → fields_fit form fields ≡ true → (has_elements form ≡ false → length_cause (extent (class_by form [])) (length p) ≡ None) → are_within fields 0 p ≡ true
there_by (forms.Struct layout) fields p fits size = all_there fields (size_of (layout_extent layout)) p (size_reached (layout_extent layout) (length p) (size refl)) fits
there_by form [] p fits size = refl
there_by form (f ∷ fields) p fits size = absurd cc

pub fields_there : (label : Option Label) (e : Entry) (octets s : List ℕ) → length e.octets ≡ 16 → have_room label ≡ true → Shows (fields_for label) e octets s → are_within (shown_fields label) 0 s ≡ true
fields_there None e octets s held room shows = refl
fields_there (Some label) e octets s held room shows = there_by label.form label.fields s room (shown_size e octets s held (Some label) shows)

-- ---- answers

-- a field by its index
pub stored_at : (fields : List Field) (i : ℕ) (d : Field) (p : List ℕ) (new : StructField) → i < length fields → new ≡ stored_field (field_row (slice_index_or fields i d)) p → FieldIn (slice_get (field_rows fields) i) p new (Ok 0)
stored_at fields i d p new low is = subst (λ o. FieldIn o p new (Ok 0)) (sym (slice_get-map field_row fields i ∙ ap (option_map field_row) (slice_get-get_or fields i d low))) (refl, is)

none_same : (p s : List ℕ) (new : StructField) (result : Result ℕ Refusal) → FieldIn None s new result → FieldIn None p new result
none_same p s new (Err Absent) h = tt
none_same p s new result h = absurd h

-- what is shown of a struct is the payload
in_payload : (form : Form) (fields : List FieldRow) (e : Entry) (octets p s : List ℕ) (i : ℕ) (new : StructField) (result : Result ℕ Refusal) → fields_fit form fields ≡ true → payload_of (row_fields form) e octets ≡ Ok p
    → Shows (row_fields form) e octets s → FieldIn (slice_get fields i) s new result → FieldIn (slice_get fields i) p new result
in_payload (forms.Struct layout) fields e octets p s i new result fits is shows h = subst (λ t. FieldIn (slice_get fields i) t new result) (shown_again (struct_fields layout) e octets p s (struct_no_limits layout) is shows) h
in_payload form [] e octets p s i new result fits is shows h = none_same p s new result h
in_payload form (f ∷ fields) e octets p s i new result fits is shows h = absurd cc

pub field_answered : (label : Option Label) (e : Entry) (octets s : List ℕ) (i : ℕ) (new : StructField) (result : Result ℕ Refusal) → have_room label ≡ true → Shows (fields_for label) (record e { kind = own_kind e }) octets s
    → FieldIn (slice_get (shown_fields label) i) s new result → FieldBy (Ok label) e i octets new result
field_answered None e octets s i new result room (p, is, at) h = subst (λ r. FieldOf [] r i new result) (sym is) (none_same p s new result h)
field_answered (Some label) e octets s i new result room (p, is, at) h =
    subst (λ r. FieldOf label.fields r i new result) (sym is) (in_payload label.form label.fields (record e { kind = own_kind e }) octets p s i new result room is (p, is, at) h)

pub field_refused : (label : Option Label) (e : Entry) (octets : List ℕ) (i : ℕ) (new : StructField) (misfit : Misfit) (refusal : Refusal) → payload_by (Ok label) e octets ≡ Err misfit → refusal ≡ refusal_for misfit → FieldBy (Ok label) e i octets new (Err refusal)
field_refused label e octets i new misfit refusal none is = subst (λ r. FieldOf (shown_fields label) r i new (Err refusal)) (sym none) (ap Err is)

-- by what is known of the type
pub field_by_label : (family : Family) (e : Entry) (octets : List ℕ) (i : ℕ) (new : StructField) (label : Option Label) (result : Result ℕ Refusal) → own_label family e ≡ Ok label → FieldBy (Ok label) e i octets new result → FieldAnswers e i octets new family result
field_by_label family e octets i new label result is h = subst (λ its_label. FieldBy its_label e i octets new result) (sym is) h

pub field_of_none : (family : Family) (e : Entry) (octets : List ℕ) (i : ℕ) (new : StructField) (misfit : Misfit) (refusal : Refusal) → own_label family e ≡ Err misfit → refusal ≡ refusal_for misfit → FieldAnswers e i octets new family (Err refusal)
field_of_none family e octets i new misfit refusal is same = subst (λ its_label. FieldBy its_label e i octets new (Err refusal)) (sym is) (ap Err same)
