-- The entries of a list that is written have texts; an attribute without a text is not written.
use Rattle.std.proofs.Common.{◌≡◌, inl, inr, ℕ, ◌+◌, ◌==◌, ◌&&◌, true, false, cond, List, [], ◌∷◌, Option, Some, Ok, Err, refl, sym, ap, ap₂, subst, ◌∙◌}
use Rattle.std.specs.List.{AllByRecursion}
use Rattle.std.proofs.lemmas.Bool.{cases_Bool, eqb-true, eq-eqb}
use Rattle.link_base.specs.declared.rows.form.Form.TheVariants as forms
use Rattle.link_base.specs.declared.rows.form.ArrayOf.{ArrayOf}
use Rattle.link_base.specs.declared.rows.form.ArrayOf.TheVariants.{U16, U32, U64, I32}
use Rattle.link_base.specs.Table.{Table, Label, row_at, label_at, label_by}
use Rattle.link_base.specs.Borrowed.{elements_at}
use Rattle.link_messages.proofs.Walking.{map_twice}
use Rattle.netlink_packet_route.specs.declared.family.Family.{Family}
use Rattle.netlink_packet_route.specs.Family.{table_of}
use Rattle.netlink_packet_route.proofs.Families.{families_formed}
use Rattle.link_entries.specs.declared.entry.Entry.{Entry}
use Rattle.link_entries.specs.declared.fields.Fields.TheVariants as fields
use Rattle.link_entries.specs.declared.misfit.Misfit.{Misfit}
use Rattle.link_entries.specs.declared.misfit.Misfit.TheVariants.{BadElement}
use Rattle.link_entries.specs.Fields.{number_form, array_number, ip_address, row_fields, fields_in, fields_at}
use Rattle.link_entries.specs.Payload.{payload_of, field_of}
use Rattle.link_entries.specs.Encoded.{alone, before, fitted, element_content, element_of, elements_of, attribute_of, entry_of, entries_of, begins_well, encoded_by}
use Rattle.link_entries.proofs.RowForms.{is_list, is_value, with_kind, value_kind, value_no_list, NoRow, OneValue, Array, AddressList, NestedList, row_says}
use Rattle.link_entries.proofs.WrittenLists.{encodes, if_held, both_true, no_content, before_ok, alone_ok, framed_ok, fitted_ok}
use Rattle.nlroute_ffi.specs.declared.refusal.Refusal.{Refusal}
use Rattle.nlroute_ffi.specs.ValueText.{with_form, address_form, own_label, fields_for, payload_by, entry_payload, TextAnswers}
use Rattle.nlroute_ffi.specs.Shown.{HasText}
use Rattle.nlroute_ffi.specs.Writing.{refusal_for}
use Rattle.nlroute_ffi.proofs.AttributeTexts.{head_label, head_kind, list_label, below_label, nested_label, element_kind, ip_fields}

-- the fields for a label are those of the row
label_fields : (table : Table) (k : ℕ) → fields_for (label_at table k) ≡ fields_at table k
label_fields table k = ap fields_in (sym (map_twice label_by (λ (l : Label). l.form) (row_at table k)))

-- a number of an array is a value
array_value : (a : ArrayOf) → is_value (array_number a) ≡ true
array_value U16 = refl
array_value U32 = refl
array_value U64 = refl
array_value I32 = refl

-- where the entries of a list begin: with an attribute, or with elements of an attribute of type k
data Begins (family : Family) (octets : List ℕ) (es : List Entry) : Type 0 where
  Attribute : begins_well es ≡ true → Begins family octets es
  Element : (k i : ℕ) (s : List ℕ) → elements_of (elements_at (table_of family) k) (fields_at (table_of family) k) k octets i es ≡ Ok s → Begins family octets es

module _ (family : Family) (octets : List ℕ) where
  abbrev table : Table
  table = table_of family

  -- the payload of an attribute
  attribute_payload : (e : Entry) → e.depth ≡ 0 → entry_payload family e octets ≡ payload_of (fields_at (table_of family) e.kind) e octets
  attribute_payload e top =
      ap (λ o. payload_by o e octets) (head_label family e e.kind top refl)
      ∙ ap₂ (λ own k. payload_of own (with_kind e k) octets) (label_fields table e.kind) (head_kind e e.kind top refl)

  -- that of an element
  element_texts : (e : Entry) (p : List ℕ) (label : Option Label) → e.depth ≡ 1 → own_label family e ≡ Ok label → payload_of (fields_for label) (with_kind e e.inner) octets ≡ Ok p → HasText family octets e
  element_texts e p label below is h =
      (p, ap (λ o. payload_by o e octets) is ∙ ap (λ k. payload_of (fields_for label) (with_kind e k) octets) (element_kind e e.inner below refl) ∙ h)

  element_held : (e : Entry) (i : ℕ) (s : List ℕ) → e.depth ≡ 1 → element_content (elements_at (table_of family) e.kind) (fields_at (table_of family) e.kind) i e octets ≡ Ok s → HasText family octets e
  element_held e i s below h =
      let k = e.kind in
      let inner = elements_at table k in
      let own = label_at inner e.inner in
      elim (row_says table k (families_formed family)) [
        | NoRow named class ↦ absurd (no_content inner (fields_at table k) i e octets s (ap (λ o. is_list (fields_in o)) named) h)
        | OneValue form names named class one low ↦ absurd (no_content inner (fields_at table k) i e octets s (ap (λ o. is_list (fields_in o)) named ∙ value_no_list (row_fields form) one) h)
        | Array a named class low ↦
            let list = list_label family k (forms.Numbers a) named in
            let looked : fields_at table k ≡ fields.Numbers a = ap fields_in named in
            element_texts e s (Some (with_form (number_form a) list.label)) below (below_label family e below ∙ list.is own)
            (value_kind (array_number a) e e.inner octets (array_value a) ∙ (ap (λ row. element_content inner row i e octets) (sym looked) ∙ h))
        | AddressList n named class few low ↦
            let list = list_label family k (forms.Addresses n) named in
            let (p, payload, text) = framed_ok i (payload_of (ip_address n) e octets) s (ap (λ row. element_content inner row i e octets) (sym (ap fields_in named)) ∙ h) in
            element_texts e p (Some (with_form (address_form n) list.label)) below (below_label family e below ∙ list.is own)
            (ap (λ row. payload_of row (with_kind e e.inner) octets) (ip_fields table k n (families_formed family) named).0 ∙ payload)
        | NestedList flagged rows named class low ↦
            let row = fields_at inner e.inner in
            let (p, payload, text) = framed_ok (field_of row e.inner e) (payload_of row (with_kind e e.inner) octets) s (ap (λ list. element_content inner list i e octets) (sym (ap fields_in named)) ∙ h) in
            element_texts e p own below (nested_label family flagged e k e.inner below refl refl named) (ap (λ row. payload_of row (with_kind e e.inner) octets) (label_fields inner e.inner) ∙ payload)
      ]

  -- an element, and the entries after it
  next_held : (e : Entry) (es : List Entry) → (e.depth == 0) ≡ false → Begins family octets (e ∷ es) → HasText family octets e × Begins family octets es
  next_held e es deep (Attribute well) = absurd cc
  next_held e es deep (Element k i s h) =
      let own = fields_at table k in
      let inner = elements_at table k in
      let others = elements_of inner own k octets (i + 1) es in
      let both = before_ok (alone (element_of inner own k i e octets)) others s (sym (ap (λ b. cond b (Ok []) (before (alone (element_of inner own k i e octets)) others)) deep) ∙ h) in
      let one = if_held ((e.depth == 1) && (e.kind == k)) BadElement (element_content inner own i e octets) both.first (alone_ok (element_of inner own k i e octets) both.first both.is_first) in
      let tests = both_true (e.depth == 1) (e.kind == k) one.0 in
      let kind : k ≡ e.kind = sym (eqb-true e.kind k tests.1) in (
        element_held e i both.first (eqb-true e.depth 1 tests.0) (subst (λ j. element_content (elements_at table j) (fields_at table j) i e octets ≡ Ok both.first) kind one.1),
        Element k (i + 1) both.second both.is_second,
      )

  all_held : (es : List Entry) (t : List ℕ) → entries_of (table_of family) octets es ≡ Ok t → Begins family octets es → AllByRecursion (HasText family octets) es
  all_held [] t h begins = tt
  all_held (e ∷ es) t h begins =
      let both = before_ok (entry_of table octets e es) (entries_of table octets es) t h in
      elim (cases_Bool (e.depth == 0)) [
        | inl flat ↦
            let top = eqb-true e.depth 0 flat in
            let payload = payload_of (fields_at table e.kind) e octets in
            let others = elements_of (elements_at table e.kind) (fields_at table e.kind) e.kind octets 0 es in
            let own : attribute_of table octets e es ≡ Ok both.first = sym (ap (λ b. cond b (attribute_of table octets e es) (Ok [])) flat) ∙ both.is_first in
            let fit = fitted_ok (field_of (fields_at table e.kind) e.kind e) (before (alone payload) others) both.first own in
            let parts = before_ok (alone payload) others fit.payload fit.is in (
              (parts.first, attribute_payload e top ∙ alone_ok payload parts.first parts.is_first),
              all_held es both.second both.is_second (Element e.kind 0 parts.second parts.is_second),
            )
        | inr deep ↦ let (this, next) = next_held e es deep begins in (this, all_held es both.second both.is_second next)
      ]

  pub written_held : (written : List ℕ) (es : List Entry) → encoded_by (table_of family) octets es ≡ Ok written → AllByRecursion (HasText family octets) es
  written_held written es h =
      elim (cases_Bool (begins_well es)) [
        | inl well ↦ all_held es written (sym (ap (λ b. cond b (entries_of table octets es) (Err (0, BadElement))) well) ∙ h) (Attribute well)
        | inr ill ↦ let wrong : Err (0, BadElement) ≡ encodes written = sym (ap (λ b. cond b (entries_of table octets es) (Err (0, BadElement))) ill) ∙ h in absurd cc
      ]

  -- an attribute that has no text
  pub refused_held : (old new : List ℕ) (e : Entry) (es : List Entry) (refusal : Refusal) → e.depth ≡ 0 → TextAnswers e octets old new family (Err refusal)
      → (misfit : Misfit) × (encoded_by (table_of family) octets (e ∷ es) ≡ Err (0, misfit)) × (refusal ≡ refusal_for misfit)
  refused_held old new e es refusal top (misfit, none, is) =
      let test : (e.depth == 0) ≡ true = eq-eqb e.depth 0 top in
      let own = fields_at table e.kind in
      let others = elements_of (elements_at table e.kind) own e.kind octets 0 es in
      let payload : payload_of own e octets ≡ Err misfit = sym (attribute_payload e top) ∙ none in
      let here : attribute_of table octets e es ≡ Err (0, misfit) = ap (λ r. fitted (field_of own e.kind e) (before (alone r) others)) payload in
      let first : entry_of table octets e es ≡ Err (0, misfit) = ap (λ b. cond b (attribute_of table octets e es) (Ok [])) test ∙ here in (
        misfit,
        ap (λ b. cond b (entries_of table octets (e ∷ es)) (Err (0, BadElement))) test ∙ ap (λ r. before r (entries_of table octets es)) first,
        is,
      )
