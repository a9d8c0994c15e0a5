-- The text of a struct names its fields.
use Rattle.std.proofs.Common.{◌≡◌, ℕ, ◌+◌, ◌-◌, ◌≤◌, true, false, List, [], ◌∷◌, map, length, take, drop, slice_get, Some, None, Ok, refl, sym, ap, ap₂, subst, ◌∙◌, arith, codes, length-take, take-take}
use Rattle.std.specs.Prelude.{nat_le}
use Rattle.std.specs.List.{list_all}
use Rattle.std.proofs.lemmas.Bool.{and_parts, leb-true, cond-true}
use Rattle.std.proofs.lemmas.List.{drop-take}
use Rattle.link_base.specs.declared.rows.form.Form.{Form}
use Rattle.link_base.specs.declared.rows.form.Form.TheVariants as forms
use Rattle.link_base.specs.declared.rows.form.Layout.{Layout}
use Rattle.link_base.specs.declared.rows.form.Layout.TheVariants as layouts
use Rattle.link_base.specs.declared.views.content.Content.{Content}
use Rattle.link_base.specs.declared.views.content.Content.TheVariants as contents
use Rattle.link_base.specs.Class.{Octets, extent, size_of, length_cause, meant}
use Rattle.link_base.specs.Fields.{FieldRow, names_for}
use Rattle.link_base.specs.Forms.{layout_extent}
use Rattle.link_base.specs.Payloads.{class_by}
use Rattle.link_base.specs.Structs.{form_width}
use Rattle.link_base.specs.Table.{One, Label}
use Rattle.link_base.specs.Borrowed.{Borrows, Says, form_of}
use Rattle.link_base.proofs.ClassLemmas.{size_reached}
use Rattle.netlink_packet_route.specs.declared.family.Family.{Family}
use Rattle.link_show.specs.Text.{joined}
use Rattle.link_show.specs.Value.{content_text}
use Rattle.link_show.specs.Structs.{field, form_text, field_text, are_within, has_fields, fields_text, struct_text}
use Rattle.link_entries.specs.declared.entry.Entry.{Entry}
use Rattle.link_entries.specs.Fields.{row_fields, struct_fields}
use Rattle.link_entries.specs.Payload.{payload_of}
use Rattle.nlroute_ffi.specs.Names.{own_kind}
use Rattle.nlroute_ffi.specs.ValueText.{own_label, payload_by, entry_payload, Shows, has_elements, IsContentBy, IsText, IsEntryText}
use Rattle.nlroute_ffi.specs.StructFields.{fields_fit, is_named, NameFields}
use Rattle.nlroute_ffi.proofs.ShownBytes.{shown_size, shown_again, struct_no_limits}
use Rattle.nlroute_ffi.proofs.FieldsThere.{own_room, all_there}

-- ---- fields of the front of a payload

module _ (names : List (ℕ × List ℕ)) (s : List ℕ) (n : ℕ) where
  same_field : (f : FieldRow) → f.offset + form_width f.form ≤ n → field_text 0 names (take n s) f ≡ field_text 0 names s f
  same_field f low =
      let at = f.offset - 0 in
      let size = form_width f.form in
      let left = n - at in
      let whole : n ≡ at + left = omega (arith, low) in
      let behind : drop at (take n s) ≡ take left (drop at s) = ap (λ k. drop at (take k s)) whole ∙ drop-take at left s in
      let bytes : take size (drop at (take n s)) ≡ take size (drop at s) = ap (take size) behind ∙ take-take size left (drop at s) (omega (arith, low)) in
      ap (λ b. field f.name (form_text (names_for names f.names) f.quantity f.form b)) bytes

  same_fields : (fields : List FieldRow) → list_all (λ f. nat_le (f.offset + form_width f.form) n) fields ≡ true → map (field_text 0 names (take n s)) fields ≡ map (field_text 0 names s) fields
  same_fields [] h = refl
  same_fields (f ∷ fields) h =
      let (one, more) = and_parts (nat_le (f.offset + form_width f.form) n) (list_all (λ f. nat_le (f.offset + form_width f.form) n) fields) h in
      ap₂ (λ t ts. t ∷ ts) (same_field f (leb-true (f.offset + form_width f.form) n one)) (same_fields fields more)

-- ---- the text of a struct

some_there : (fields : List FieldRow) (i : ℕ) (f : FieldRow) (q : List ℕ) → slice_get fields i ≡ Some f → are_within fields 0 q ≡ true → has_fields fields 0 q ≡ true
some_there [] i f q at h = absurd cc
some_there (x ∷ fields) i f q at h = h

fields_joined : (fields : List FieldRow) (names : List (ℕ × List ℕ)) (q : List ℕ) → has_fields fields 0 q ≡ true → fields_text fields 0 names q ≡ joined (codes " ") (map (field_text 0 names q) fields)
unfolding fields_text
fields_joined fields names q h = cond-true _ _ _ h

by_fields : (layout : Layout) (fields : List FieldRow) (names : List (ℕ × List ℕ)) (q : List ℕ) → is_named (forms.Struct layout) ≡ true → struct_text layout fields names q ≡ fields_text fields 0 names q
by_fields layouts.BridgeId fields names q h = absurd cc
by_fields layout fields names q h = refl

by_content : (layout : Layout) (label : Label) (s : List ℕ) (content : Content) → Says content (meant (Octets (layout_extent layout)) s) → form_of content ≡ Some (forms.Struct layout)
    → content_text label content ≡ struct_text layout label.fields label.names (take (size_of (layout_extent layout)) s)
by_content layout label s (contents.Struct other q) says form =
    let same : other ≡ layout = cc in
    let bytes : q.now ≡ take (size_of (layout_extent layout)) s = cc in
    ap₂ (λ l b. struct_text l label.fields label.names b) same bytes
by_content layout label s content says form = absurd cc

named_in : (layout : Layout) (label : Label) (i : ℕ) (f : FieldRow) (s : List ℕ) (content : Content) → is_named (forms.Struct layout) ≡ true → fields_fit (forms.Struct layout) label.fields ≡ true → slice_get label.fields i ≡ Some f
    → length_cause (layout_extent layout) (length s) ≡ None → Says content (meant (Octets (layout_extent layout)) s) → form_of content ≡ Some (forms.Struct layout)
    → content_text label content ≡ joined (codes " ") (map (field_text 0 label.names s) label.fields)
named_in layout label i f s content named fits at size says form =
    let n = size_of (layout_extent layout) in
    let enough = size_reached (layout_extent layout) (length s) size in
    let there = all_there label.fields n (take n s) (omega (arith, length-take n s, enough)) fits in
    by_content layout label s content says form ∙ by_fields layout label.fields label.names (take n s) named
    ∙ fields_joined label.fields label.names (take n s) (some_there label.fields i f (take n s) at there)
    ∙ ap (joined (codes " ")) (same_fields label.names s n label.fields fits)

-- ---- the text of an entry

module _ (e : Entry) (octets words : List ℕ) (held : length e.octets ≡ 16) (label : Label) (i : ℕ) (f : FieldRow) (at : slice_get label.fields i ≡ Some f) where
  by_form : (form : Form) → label.form ≡ form → is_named form ≡ true → fields_fit form label.fields ≡ true → IsText (Ok (Some label)) e octets words → NameFields label (payload_by (Ok (Some label)) e octets) words
  by_form (forms.Struct layout) of named fits (s, shows, (content, is, stated)) =
      let own : Entry = record e { kind = own_kind e } in
      let size = subst (λ g. has_elements g ≡ false → length_cause (extent (class_by g [])) (length s) ≡ None) of (shown_size own octets s held (Some label) shows) refl in
      let (p, payload, same) = shows in
      let again : s ≡ p = shown_again (struct_fields layout) own octets p s (struct_no_limits layout) (subst (λ g. payload_of (row_fields g) own octets ≡ Ok p) of payload) (subst (λ g. Shows (row_fields g) own octets s) of shows) in
      let single : IsContentBy false label s content = subst (λ b. IsContentBy b label s content) (ap has_elements of) is in
      let (says, form) = subst (λ g. Borrows (Some (One (class_by g label.names))) s content × (form_of content ≡ Some g)) of single in
      let text = stated ∙ named_in layout label i f s content named fits at size says form in
      subst (λ r. NameFields label r words) (sym payload) (text ∙ ap (λ t. joined (codes " ") (map (field_text 0 label.names t) label.fields)) again)
  by_form form of named fits text = absurd cc

pub fields_named : (family : Family) (e : Entry) (octets words : List ℕ) (label : Label) (i : ℕ) (f : FieldRow) → length e.octets ≡ 16 → own_label family e ≡ Ok (Some label) → is_named label.form ≡ true → slice_get label.fields i ≡ Some f
    → IsEntryText family e octets words → NameFields label (entry_payload family e octets) words
fields_named family e octets words label i f held is named at text =
    let own = by_form e octets words held label i f at label.form refl named (own_room family e (Some label) is) (subst (λ stated. IsText stated e octets words) is text) in
    subst (λ stated. NameFields label (payload_by stated e octets) words) (sym is) own
