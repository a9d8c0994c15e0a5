-- The fields of structs: of the payloads that entries encode to.
use Rattle.std.specs.Prelude.{◌≡◌, ℕ, ◌+◌, Bool, true, false, List, [], ◌∷◌, map, codes, replicate, slice_get, nat_le, Option, Some, None, Result, Ok, Err}
use Rattle.std.specs.List.{list_all}
use Rattle.std.specs.Int.{w64, cast_unsigned}
use Rattle.link_base.specs.declared.rows.form.Form.{Form}
use Rattle.link_base.specs.declared.rows.form.Form.TheVariants as forms
use Rattle.link_base.specs.declared.rows.form.Layout.TheVariants as layouts
use Rattle.link_base.specs.Class.{integer, size_of}
use Rattle.link_base.specs.Fields.{FieldRow}
use Rattle.link_base.specs.Forms.{layout_extent}
use Rattle.link_base.specs.Number.{four_bytes}
use Rattle.link_base.specs.Orders.{number_by}
use Rattle.link_base.specs.Structs.{form_width}
use Rattle.link_base.specs.Table.{Label}
use Rattle.netlink_packet_route.specs.declared.family.Family.{Family}
use Rattle.link_show.specs.Text.{joined}
use Rattle.link_show.specs.Structs.{field_in, field_text}
use Rattle.link_entries.specs.declared.entry.Entry.{Entry}
use Rattle.link_entries.specs.declared.misfit.Misfit.{Misfit}
use Rattle.link_entries.specs.Entry.{padded}
use Rattle.link_entries.specs.Fields.{role_form}
use Rattle.link_entries.specs.Forms.{form_signed, form_mac, form_bytes}
use Rattle.nlroute_ffi.specs.declared.refusal.Refusal.{Refusal}
use Rattle.nlroute_ffi.specs.declared.refusal.Refusal.TheVariants.{Absent}
use Rattle.nlroute_ffi.specs.declared.struct_fields.StructField.{StructField}
use Rattle.nlroute_ffi.specs.Buffers.{cut_text}
use Rattle.nlroute_ffi.specs.Timing.{shown_fields}
use Rattle.nlroute_ffi.specs.ValueText.{own_label, payload_by}
use Rattle.nlroute_ffi.specs.Writing.{refusal_for}

-- ---- a field

-- its form, as that of an attribute; of what is no number and no address, bytes
abbrev pub field_form : Form → ℕ
field_form (forms.Number w order role) = role_form role
field_form forms.Signed = form_signed
field_form forms.Mac = form_mac
field_form form = form_bytes

-- its number, if it is one; a signed number as one of 64 bits
abbrev pub field_number : Form → List ℕ → ℕ
field_number (forms.Number w order role) p = number_by order p
field_number forms.Signed p = cast_unsigned w64 (integer p)
field_number form p = 0

-- its bytes, if it is no number
abbrev pub field_octets : Form → List ℕ → List ℕ
field_octets (forms.Number w order role) p = []
field_octets forms.Signed p = []
field_octets form p = p

-- the field of a struct with these bytes
abbrev pub stored_field : FieldRow → List ℕ → StructField
stored_field f p = record {
  name = cut_text f.name (replicate 32 0);
  number = field_number f.form (field_in 0 p f);
  offset = f.offset;
  length = four_bytes (form_width f.form);
  form = field_form f.form;
  octets = padded (field_octets f.form (field_in 0 p f));
}

-- ---- of a struct

-- fields are those of a struct, and each payload that it accepts has them
abbrev pub fields_fit : Form → List FieldRow → Bool
fields_fit (forms.Struct layout) fields = list_all (λ f. nat_le (f.offset + form_width f.form) (size_of (layout_extent layout))) fields
fields_fit form [] = true
fields_fit form (f ∷ fields) = false

abbrev pub have_room : Option Label → Bool
have_room None = true
have_room (Some label) = fields_fit label.form label.fields

-- the field is stored; or there is none
abbrev pub FieldIn : Option FieldRow → List ℕ → StructField → Result ℕ Refusal → Type 0
FieldIn (Some f) p new (Ok n) = (n ≡ 0) × (new ≡ stored_field f p)
FieldIn None p new (Err Absent) = Unit {0}
FieldIn found p new result = ⊥

-- field i of a payload; or why there is none
abbrev pub FieldOf : List FieldRow → Result (List ℕ) Misfit → ℕ → StructField → Result ℕ Refusal → Type 0
FieldOf fields (Ok p) i new result = FieldIn (slice_get fields i) p new result
FieldOf fields (Err misfit) i new result = result ≡ Err (refusal_for misfit)

-- the fields of an entry with this label
abbrev pub fields_by_label : Result (Option Label) Misfit → List FieldRow
fields_by_label (Ok label) = shown_fields label
fields_by_label (Err misfit) = []

-- field i of the payload that an entry with this label encodes to; or the error is that of writing it
abbrev pub FieldBy : Result (Option Label) Misfit → Entry → ℕ → List ℕ → StructField → Result ℕ Refusal → Type 0
FieldBy its_label e i octets new result = FieldOf (fields_by_label its_label) (payload_by its_label e octets) i new result

abbrev pub FieldAnswers : Entry → ℕ → List ℕ → StructField → Family → Result ℕ Refusal → Type 0
FieldAnswers e i octets new family result = FieldBy (own_label family e) e i octets new result

-- ---- texts

-- a struct whose text names its fields: any but the ID of a bridge
abbrev pub is_named : Form → Bool
is_named (forms.Struct layouts.BridgeId) = false
is_named (forms.Struct layout) = true
is_named form = false

-- the words name the fields of a payload, in their order, each with what its bytes hold
abbrev pub NameFields : Label → Result (List ℕ) Misfit → List ℕ → Type 0
NameFields label (Ok p) words = words ≡ joined (codes " ") (map (field_text 0 label.names p) label.fields)
NameFields label (Err misfit) words = ⊥
