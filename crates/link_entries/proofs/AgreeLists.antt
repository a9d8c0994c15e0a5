-- The entries of what was written are those that were written.
use Rattle.std.proofs.Common.{◌≡◌, ℕ, ◌+◌, ◌<◌, true, false, List, [], length, Option, Some, refl, sym, ap, subst, ◌∙◌, ◌==◌, cond, ◌∷◌, ◌++◌, Ok, arith}
use Rattle.std.specs.List.{AllZip, AllByRecursion}
use Rattle.link_base.specs.declared.views.content.Content.{Content as Borrowed}
use Rattle.link_base.specs.declared.rows.form.Form.{Form}
use Rattle.link_base.specs.declared.rows.form.Form.TheVariants as forms
use Rattle.link_base.specs.Class.{Many}
use Rattle.link_base.specs.Forms.{size_in}
use Rattle.link_base.specs.Frame.{kind_of}
use Rattle.link_base.specs.Table.{Shape, One, Nested, Addresses, Table, class_at, form_at, nested_flag}
use Rattle.link_base.specs.Buffer.{kind_field_of, payload_of as payload_after, payload_of}
use Rattle.link_base.specs.Borrowed.{form_of, elements_at, HasContent}
use Rattle.link_base.specs.WellFormed.{is_table}
use Rattle.link_base.proofs.Coherence.{elements_formed}
use Rattle.link_messages.specs.Walk.{Item, Walks}
use Rattle.link_entries.specs.declared.entry.Entry.{Entry}
use Rattle.link_entries.specs.Entry.{blank}
use Rattle.link_entries.specs.Flat.{Elements, head_entry, IsGroup, Flat}
use Rattle.link_entries.proofs.OneContent.{value_at, fields_by, entry_read}
use Rattle.link_entries.proofs.EntryFields.{keeps_filled, AreBelow}
use Rattle.link_entries.proofs.Shapes.{ElementsBy, elements_by_form}
use Rattle.link_entries.specs.declared.fields.Fields.{Fields}
use Rattle.link_entries.specs.declared.fields.Fields.TheVariants as fields
use Rattle.link_entries.specs.Fields.{row_fields, fields_in, fields_at}
use Rattle.link_entries.specs.Payload.{field_of}
use Rattle.link_entries.specs.Agreement.{IsEntry, IsSame, element_fields, SameInner, Agrees}
use Rattle.link_entries.proofs.RowForms.{is_list, value_no_list, RowCase, NoRow, OneValue, Array, AddressList, NestedList, row_says, element_no_list}
use Rattle.link_entries.proofs.BackValues.{StandsAt}
use Rattle.link_entries.proofs.BackSingles.{none_below}
use Rattle.link_entries.proofs.Located.{Located, suffix_whole, Suffix, suffix_payload, suffix_rest}
use Rattle.link_entries.proofs.WrittenLists.{form_held, if_held, same_encodings, before_ok}
use Rattle.link_entries.proofs.WrittenParts.{Parts, single_payload, list_payload, field_held, parts}
use Rattle.link_entries.proofs.WrittenParts as written_fields
use Rattle.link_entries.proofs.AgreeClasses.{IsRead, same_of, single_read, list_read}
use Rattle.link_entries.proofs.AgreeElements.{ElementAs, array_same, addresses_same, nested_same, first_is, no_first, not_empty}
use Rattle.std.proofs.lemmas.Bool.{eqb-true, eq-eqb}
use Rattle.link_entries.specs.declared.misfit.Misfit.TheVariants.{BadElement}
use Rattle.link_entries.specs.Encoded.{attribute_of, entry_of, entries_of, begins_well, encoded_by}
use Rattle.link_entries.proofs.Groups.{joined}

module _ (table : Table) (formed : is_table table ≡ true) (octets : List ℕ) (e : Entry) (es : List Entry) (s : List ℕ) (held : IsEntry e) (w : Parts IsEntry table octets e es s) where
  abbrev k : ℕ
  k = e.kind

  abbrev own : Fields
  own = fields_at table e.kind

  abbrev g : ℕ
  g = field_of (fields_at table e.kind) e.kind e

  abbrev p : List ℕ
  p = w.payload

  -- its `nla_type`
  pub field_low : (g < 65536) × (kind_of g ≡ k)
  field_low = written_fields.field_low k e.flags g (field_held table formed e octets w.front w.front_is) held.flags

  -- in a list
  module _ (list : List ℕ) (flat : e.depth ≡ 0) (x : Item) (field : kind_field_of x.1 ≡ g) (bytes : payload_after x.1 ≡ w.payload) (stands : Located list (x.0 + 4) w.payload) (content : Borrowed) (has : HasContent table x.1 content)
      (below : List Entry) (elements : Elements table (kind_of (kind_field_of x.1)) (x.0 + 4) content below) where
    abbrev f : ℕ
    f = kind_field_of x.1

    abbrev head : Entry
    head = head_entry x content (length below)

    abbrev bare : Entry
    bare = blank e.kind 0 0 (x.0 + 4) (length w.payload)

    -- its entry, by its form
    abbrev full : Entry
    full = fields_by f (form_at table k) (value_at (class_at table k) p) (length below) bare

    at : StandsAt bare list p
    at = record { size = refl; within = stands.within; short = w.short; is = stands.is }

    kind : kind_of f ≡ k
    kind = ap kind_of field ∙ field_low.1

    named : form_of content ≡ form_at table k
    named = has.form ∙ ap (form_at table) kind

    stated : (o : Option Shape) (form : Option Form) → class_at table k ≡ o → form_at table k ≡ form → ElementsBy table k (x.0 + 4) o p form below
    stated = elements_by_form table x.1 content has (x.0 + 4) below elements k p kind bytes

    -- that entry, and those of its elements
    pub record GroupAs : Type 0 where
      pub head_as : IsSame own octets e list head
      pub below_as : AllZip (ElementAs (elements_at table k) own k octets list) w.cut.below below

    group_of : IsRead own octets e list full → AllZip (ElementAs (elements_at table k) own k octets list) w.cut.below below → GroupAs
    group_of read all =
        let keeps = keeps_filled f content (length below) (blank (kind_of f) 0 0 (x.0 + 4) (length (payload_after x.1))) in
        let is = entry_read table x.1 content has (length below) (λ j m. blank j 0 0 (x.0 + 4) m) k p kind bytes in
        record { head_as = same_of own octets list e head full is (keeps.kind ∙ kind) (keeps.depth ∙ sym flat) (form_held own e octets w.front w.front_is) read; below_as = all }

    -- no list
    single : is_list own ≡ false → GroupAs
    single plain =
        let (none, payload) = single_payload IsEntry table octets e es s w plain in
        let no_more : below ≡ [] = none_below table (kind_of f) (x.0 + 4) content below (ap (λ o. is_list (fields_in o)) named ∙ plain) elements in
        group_of (single_read table formed e octets p held payload f (length below) list bare at field kind plain)
        (subst (λ l. AllZip (ElementAs (elements_at table k) own k octets list) l below) (sym none) (subst (λ l. AllZip (ElementAs (elements_at table k) own k octets list) [] l) (sym no_more) tt))

    -- a list
    list_of : (form : Form) (row : Fields) → form_at table k ≡ Some form → row_fields form ≡ row → is_list row ≡ true → AllZip (ElementAs (elements_at table k) row k octets list) w.cut.below below → GroupAs
    list_of form row is looked listed all =
        group_of (subst (λ o. IsRead (fields_in o) octets e list (fields_by f o (value_at (class_at table k) p) (length below) bare)) (sym is) (list_read form octets list e f (length below) (value_at (class_at table k) p) bare (ap is_list looked ∙ listed)))
        (subst (λ o. AllZip (ElementAs (elements_at table k) o k octets list) w.cut.below below) (sym (ap fields_in is ∙ looked)) all)

    by_row : RowCase table k → GroupAs
    by_row (NoRow form_is class) = single (ap (λ o. is_list (fields_in o)) form_is)
    by_row (OneValue form names form_is class one low) = single (ap (λ o. is_list (fields_in o)) form_is ∙ value_no_list (row_fields form) one)
    by_row (Array a form_is class low) =
        let row = fields.Numbers a in
        let is = stated (Some (One (Many (size_in a)))) (Some (forms.Numbers a)) class form_is in
        let all = array_same (elements_at table k) a k (x.0 + 4) octets list w.cut.below p w.cut.deep w.cut.held (list_payload IsEntry table octets e es s w row (ap fields_in form_is) refl) in
        list_of (forms.Numbers a) row form_is refl refl (subst (λ l. AllZip (ElementAs (elements_at table k) row k octets list) w.cut.below l) (sym is) all)
    by_row (AddressList n form_is class few low) =
        let (items, walk, is) = stated (Some (Addresses n)) (Some (forms.Addresses n)) class form_is in
        let all = addresses_same (elements_at table k) n k (x.0 + 4) octets list few (length p) 0 0 w.cut.below p items walk.rest w.cut.deep w.cut.held (list_payload IsEntry table octets e es s w (fields.Addresses n) (ap fields_in form_is) refl)
        walk.walks walk.end in
        list_of (forms.Addresses n) (fields.Addresses n) form_is refl refl (subst (λ l. AllZip (ElementAs (elements_at table k) (fields.Addresses n) k octets list) w.cut.below l) (sym is) all)
    by_row (NestedList flagged rows form_is class low) =
        let (items, walk, each) = stated (Some (Nested flagged rows)) (Some (forms.List flagged)) class form_is in
        list_of (forms.List flagged) (fields.List (nested_flag flagged)) form_is refl refl
        (nested_same (elements_at table k) (elements_formed table k formed) (λ j. element_no_list table k j formed) (nested_flag flagged) k octets list (x.0 + 4) p w.short stands 0 w.cut.below p items walk.rest below
        w.cut.deep w.cut.held (list_payload IsEntry table octets e es s w (fields.List (nested_flag flagged)) (ap fields_in form_is) refl) walk.walks walk.end (suffix_whole p) each)

    pub attribute_same : GroupAs
    attribute_same = by_row (row_says table k formed)

zip_append : {A B : Type 0} (R : A → B → Type 0) (xs : List A) (ys : List B) (zs : List A) (ws : List B) → AllZip R xs ys → AllZip R zs ws → AllZip R (xs ++ zs) (ys ++ ws)
zip_append R [] [] zs ws h k = k
zip_append R (x ∷ xs) (y ∷ ys) zs ws h k = (h.0, zip_append R xs ys zs ws h.1 k)
zip_append R xs ys zs ws h k = absurd h

module _ (table : Table) (formed : is_table table ≡ true) (octets list : List ℕ) where
  -- ---- one entry

  head_agrees : (e r : Entry) → e.depth ≡ 0 → IsSame (fields_at table e.kind) octets e list r → Agrees table octets list e r
  head_agrees e r flat h = record {
    same = subst (λ o. IsSame o octets e list r) (sym (ap (λ b. cond b (fields_at table e.kind) (element_fields (elements_at table e.kind) (fields_at table e.kind) e)) (eq-eqb e.depth 0 flat))) h;
    inner = λ deep. absurd (omega (arith, flat, deep));
  }

  element_agrees : (k : ℕ) (e r : Entry) → ElementAs (elements_at table k) (fields_at table k) k octets list e r → Agrees table octets list e r
  element_agrees k e r h =
      let kind = h.kind in
      let moved : IsSame (element_fields (elements_at table e.kind) (fields_at table e.kind) e) octets e list r =
      subst (λ j. IsSame (element_fields (elements_at table j) (fields_at table j) e) octets e list r) (sym kind) h.same in
      let inner : SameInner (fields_at table e.kind) e r = subst (λ j. SameInner (fields_at table j) e r) (sym kind) h.inner in
      record {
        same = subst (λ o. IsSame o octets e list r) (sym (ap (λ n. cond (n == 0) (fields_at table e.kind) (element_fields (elements_at table e.kind) (fields_at table e.kind) e)) h.deep)) moved;
        inner = λ deep. inner;
      }

  elements_agree : (k : ℕ) (es rs : List Entry) → AllZip (ElementAs (elements_at table k) (fields_at table k) k octets list) es rs → AllZip (Agrees table octets list) es rs
  elements_agree k [] [] h = tt
  elements_agree k (e ∷ es) (r ∷ rs) h = (element_agrees k e r h.0, elements_agree k es rs h.1)
  elements_agree k es rs h = absurd h

  -- ---- all entries

  -- elements add nothing to a list: their attribute does
  passed_over : (below rest : List Entry) (t : List ℕ) → AreBelow below → entries_of table octets (below ++ rest) ≡ Ok t → entries_of table octets rest ≡ Ok t
  passed_over [] rest t deep h = h
  passed_over (e ∷ below) rest t deep h =
      let both = before_ok (entry_of table octets e (below ++ rest)) (entries_of table octets (below ++ rest)) t h in
      let none : [] ≡ both.first = same_encodings [] both.first (sym (ap (λ n. cond (n == 0) (attribute_of table octets e (below ++ rest)) (Ok [])) deep.0) ∙ both.is_first) in
      let all : both.second ≡ t = sym (both.is ∙ ap (λ u. u ++ both.second) (sym none)) in
      passed_over below rest t deep.1 (both.is_second ∙ ap (λ u. Ok u) all)

  rest_agrees : (s : List ℕ) (items : List Item) (u : List ℕ) (groups : List (List Entry)) (es : List Entry) → Walks (length list) s items u → u ≡ [] → Suffix list s → AllZip (IsGroup table) items groups
      → begins_well es ≡ true → AllByRecursion IsEntry es → entries_of table octets es ≡ Ok s → AllZip (Agrees table octets list) es (joined groups)
  rest_agrees s [] u [] [] walks last suffix each begins held h = tt
  rest_agrees s (x ∷ items) u (g ∷ groups) [] walks last suffix each begins held h = absurd (no_first s x.1 walks.1.0 (sym (same_encodings [] s h)) walks.1.1)
  rest_agrees s [] u [] (e ∷ es) walks last suffix each begins held h =
      let both = before_ok (entry_of table octets e es) (entries_of table octets es) s h in
      let own : attribute_of table octets e es ≡ Ok both.first = sym (ap (λ b. cond b (attribute_of table octets e es) (Ok [])) begins) ∙ both.is_first in
      let w = parts IsEntry table octets e es both.first held.1 own in
      absurd (not_empty (field_of (fields_at table e.kind) e.kind e) w.payload both.second s (both.is ∙ ap (λ t. t ++ both.second) w.text) (walks ∙ last))
  rest_agrees s (x ∷ items) u (g ∷ groups) (e ∷ es) walks last suffix each begins held h =
      let (content, has, (below, elements, is)) = each.0 in
      let flat = eqb-true e.depth 0 begins in
      let both = before_ok (entry_of table octets e es) (entries_of table octets es) s h in
      let own : attribute_of table octets e es ≡ Ok both.first = sym (ap (λ b. cond b (attribute_of table octets e es) (Ok [])) begins) ∙ both.is_first in
      let w = parts IsEntry table octets e es both.first held.1 own in
      let f = field_of (fields_at table e.kind) e.kind e in
      let after = walks.1.0 in
      let split = walks.1.1 in
      let first = first_is s x.1 after f w.payload both.second (field_low table formed octets e es both.first held.0 w).0 w.short (both.is ∙ ap (λ t. t ++ both.second) w.text) split in
      let place : Located list (x.0 + 4) (payload_of x.1) = subst (λ n. Located list (n + 4) (payload_of x.1)) (sym walks.0) (suffix_payload list s x.1 after suffix split) in
      let stands : Located list (x.0 + 4) w.payload = subst (λ b. Located list (x.0 + 4) b) first.payload place in
      let group = attribute_same table formed octets e es both.first held.0 w list flat x first.field first.payload stands content has below elements in
      let later : entries_of table octets w.cut.rest ≡ Ok both.second = passed_over w.cut.below w.cut.rest both.second w.cut.deep (ap (entries_of table octets) (sym w.cut.is) ∙ both.is_second) in
      let others = rest_agrees both.second items u groups w.cut.rest (subst (λ t. Walks (length list) t items u) first.rest walks.1.2) last (subst (λ t. Suffix list t) first.rest (suffix_rest list s x.1 after suffix split)) each.1 w.cut.end w.cut.held_rest later in
      let head = head_entry x content (length below) in
      let all = zip_append (Agrees table octets list) (e ∷ w.cut.below) (head ∷ below) w.cut.rest (joined groups) (head_agrees e head flat group.head_as, elements_agree e.kind w.cut.below below group.below_as) others in
      subst (λ l. AllZip (Agrees table octets list) (e ∷ l) (g ++ joined groups)) (sym w.cut.is) (subst (λ l. AllZip (Agrees table octets list) (e ∷ (w.cut.below ++ w.cut.rest)) (l ++ joined groups)) (sym is) all)
  rest_agrees s items u groups es walks last suffix each begins held h = absurd each

-- the entries of what was written are those that were written
pub written_agrees : (table : Table) → is_table table ≡ true → (octets list : List ℕ) (es read : List Entry) → AllByRecursion IsEntry es → encoded_by table octets es ≡ Ok list → Flat table list read → AllZip (Agrees table octets list) es read
written_agrees table formed octets list es read held h flat =
    let (well, entries) = if_held (begins_well es) (0, BadElement) (entries_of table octets es) list h in
    subst (λ l. AllZip (Agrees table octets list) es l) (sym flat.joined)
    (rest_agrees table formed octets list list flat.items flat.walk.rest flat.groups es flat.walk.walks flat.walk.end (suffix_whole list) flat.each well held entries)
