-- Attributes and lists that were read encode to what a rewriting writes.
use Rattle.std.proofs.Common.{◌≡◌, ℕ, ◌+◌, ◌≤◌, true, false, List, [], ◌++◌, length, map, Option, Some, Ok, Err, refl, sym, ap, ap₂, subst, ◌∙◌, arith, ◌==◌, cond, ◌∷◌}
use Rattle.std.proofs.lemmas.List.{append-nil}
use Rattle.link_base.specs.declared.views.content.Content.{Content as Borrowed}
use Rattle.link_base.specs.declared.rows.form.Form.{Form}
use Rattle.link_base.specs.declared.rows.form.Form.TheVariants as forms
use Rattle.link_base.specs.Number.{IsBytes}
use Rattle.link_base.specs.Class.{Many}
use Rattle.link_base.specs.Forms.{size_in}
use Rattle.link_base.specs.Frame.{kind_of, frame_bytes, bytes_of_frames}
use Rattle.link_base.specs.Wire.{whole, Wire}
use Rattle.link_base.specs.Table.{Shape, One, Nested, Addresses, Inner, Listed, Table, AttrValue, Case, class_at, form_at, nested_flag, GivesBy, Gives, addresses_from, of_length, written_kind, written_payload, written_frame, written_list, Fits, Rewriting}
use Rattle.link_base.specs.Lift.{lift}
use Rattle.link_base.specs.Buffer.{kind_field_of, payload_of as payload_after}
use Rattle.link_base.specs.Borrowed.{elements_by, elements_at, HasContent}
use Rattle.link_base.specs.WellFormed.{is_table}
use Rattle.link_base.proofs.Coherence.{elements_formed}
use Rattle.link_base.proofs.Lifted.{written_same}
use Rattle.link_base.proofs.Readings.{same_ok}
use Rattle.link_base.proofs.ClassLemmas.{multiple}
use Rattle.link_messages.specs.Walk.{Item, Walks}
use Rattle.link_entries.specs.declared.entry.Entry.{Entry}
use Rattle.link_entries.specs.Entry.{blank}
use Rattle.link_entries.specs.Flat.{Elements, head_entry, IsGroup, Flat}
use Rattle.link_entries.proofs.EntryFields.{keeps_filled, AreBelow, elements_below}
use Rattle.link_entries.proofs.Shapes.{ElementsBy, elements_by_form}
use Rattle.link_entries.specs.declared.fields.Fields.{Fields}
use Rattle.link_entries.specs.declared.fields.Fields.TheVariants as fields
use Rattle.link_entries.specs.Fields.{row_fields, fields_in, fields_at}
use Rattle.link_entries.specs.Payload.{payload_of, field_of}
use Rattle.link_entries.specs.Encoded.{alone, before, fitted, elements_of, attribute_of, begins_well, entries_of, encoded_by}
use Rattle.link_entries.proofs.RowForms.{is_list, value_no_list, with_kind, RowCase, NoRow, OneValue, Array, AddressList, NestedList, row_says, element_no_list}
use Rattle.link_entries.proofs.Encodings.{fitted_all}
use Rattle.link_entries.proofs.BackValues.{StandsAt}
use Rattle.link_entries.proofs.BackSingles.{none_below, value_read, list_back, single_back}
use Rattle.link_entries.proofs.BackElements.{elements_end, array_encoded, addresses_encoded, payloads_read, wire_lifted, nested_encoded, none_values}
use Rattle.link_entries.proofs.Located.{Located, suffix_whole, Suffix, suffix_payload, suffix_rest}
use Rattle.std.specs.List.{AllZip, AllByRecursion}
use Rattle.std.proofs.lemmas.Bool.{eq-eqb}
use Rattle.link_base.proofs.Values.{bytes-take, bytes-drop}
use Rattle.link_base.proofs.ViewLemmas.{first_value, split_of}
use Rattle.link_entries.specs.declared.misfit.Misfit.TheVariants.{BadElement}
use Rattle.link_entries.proofs.Groups.{joined}

-- ---- an attribute in parts

attribute_parts : (table : Table) (own : Fields) (k : ℕ) (list : List ℕ) (e : Entry) (es : List Entry) (p t : List ℕ) (v : AttrValue) → fields_at table k ≡ own → e.kind ≡ k → field_of own k e ≡ written_kind v
    → payload_of own e list ≡ Ok p → elements_of (elements_at table k) own k list 0 es ≡ Ok t → p ++ t ≡ written_payload v → length (written_payload v) ≤ 65531 → attribute_of table list e es ≡ Ok (written_frame v)
attribute_parts table own k list e es p t v looked kind field payload elements all short =
    ap (λ j. fitted (field_of (fields_at table j) j e) (before (alone (payload_of (fields_at table j) e list)) (elements_of (elements_at table j) (fields_at table j) j list 0 es))) kind
    ∙ ap (λ o. fitted (field_of o k e) (before (alone (payload_of o e list)) (elements_of (elements_at table k) o k list 0 es))) looked
    ∙ fitted_all (field_of own k e) (payload_of own e list) (elements_of (elements_at table k) own k list 0 es) p t payload elements (omega (arith, ap length all, short))
    ∙ ap₂ (λ f q. Ok (frame_bytes (whole f q))) field all

-- ---- one attribute

module _ (table : Table) (formed : is_table table ≡ true) (list : List ℕ) (x : Item) (content : Borrowed) (has : HasContent table x.1 content) (es : List Entry) (below : Elements table (kind_of (kind_field_of x.1)) (x.0 + 4) content es)
    (v : AttrValue) (given : Gives table (kind_field_of x.1) (payload_after x.1) (Ok v)) (fits : length (written_payload v) ≤ 65531) (rest : List Entry) (end : begins_well rest ≡ true)
    (bytes : IsBytes (payload_after x.1)) (short : length (payload_after x.1) ≤ 65531) (stands : Located list (x.0 + 4) (payload_after x.1)) where
  abbrev f : ℕ
  f = kind_field_of x.1

  abbrev k : ℕ
  k = kind_of (kind_field_of x.1)

  abbrev p : List ℕ
  p = payload_after x.1

  abbrev bare : Entry
  bare = blank (kind_of (kind_field_of x.1)) 0 0 (x.0 + 4) (length (payload_after x.1))

  abbrev head : Entry
  head = head_entry x content (length es)

  abbrev Goal : Type 0
  Goal = attribute_of table list (head_entry x content (length es)) (es ++ rest) ≡ Ok (written_frame v)

  at_bare : StandsAt bare list p
  at_bare = record { size = refl; within = stands.within; short = short; is = stands.is }

  head_kind : head.kind ≡ k
  head_kind = (keeps_filled f content (length es) bare).kind

  stated : (o : Option Shape) (form : Option Form) → class_at table k ≡ o → form_at table k ≡ form → ElementsBy table k (x.0 + 4) o p form es
  stated = elements_by_form table x.1 content has (x.0 + 4) es below k p refl refl

  -- no list
  single : is_list (fields_at table k) ≡ false → Goal
  single plain =
      let own = fields_at table k in
      let one = single_back table x.1 content has (length es) bare formed list bytes at_bare v given plain in
      let nothing : es ≡ [] = none_below table k (x.0 + 4) content es (ap (λ o. is_list (fields_in o)) has.form ∙ plain) below in
      attribute_parts table own k list head (es ++ rest) (written_payload v) [] v refl head_kind one.field (ap (λ j. payload_of own (with_kind head j) list) head_kind ∙ one.payload)
      (ap (λ l. elements_of (elements_at table k) own k list 0 (l ++ rest)) nothing ∙ elements_end (elements_at table k) own k list 0 rest end) (append-nil (written_payload v)) fits

  -- a list
  listed : (own : Fields) (t : List ℕ) (w : AttrValue) → payload_of own head list ≡ Ok [] → fields_at table k ≡ own → field_of own k head ≡ written_kind w → elements_of (elements_at table k) own k list 0 (es ++ rest) ≡ Ok t
      → t ≡ written_payload w → v ≡ w → Goal
  listed own t w nothing looked field elements is value =
      attribute_parts table own k list head (es ++ rest) [] t v looked head_kind (field ∙ ap written_kind (sym value)) nothing elements (is ∙ ap written_payload (sym value)) fits

  by_row : RowCase table k → Goal
  by_row (NoRow named class) = single (ap (λ o. is_list (fields_in o)) named)
  by_row (OneValue form names named class one low) = single (ap (λ o. is_list (fields_in o)) named ∙ value_no_list (row_fields form) one)
  by_row (Array a named class low) =
      let c = Many (size_in a) in
      let own = fields.Numbers a in
      let was = value_read c k p v (subst (λ o. GivesBy o f p (Ok v)) class given) in
      let is = stated (Some (One c)) (Some (forms.Numbers a)) class named in
      let none : k ≡ k + 0 = omega arith in
      listed own p (Case k _) (list_back table x.1 content has (length es) bare (forms.Numbers a) list named refl) (ap fields_in named) none
      (ap (λ l. elements_of (elements_at table k) own k list 0 (l ++ rest)) is ∙ array_encoded (elements_at table k) a k (x.0 + 4) p list rest bytes end (multiple (size_in a) (length p) was.accepted))
      refl was.value
  by_row (AddressList n named class few low) = by_given (subst (λ o. GivesBy o f p (Ok v)) class given) where
    by_given : GivesBy (Some (Addresses n)) f p (Ok v) → Goal
    by_given (Ok vs, wire, value) =
        let (items, walk, is) = stated (Some (Addresses n)) (Some (forms.Addresses n)) class named in
        let payloads = payloads_read (length p) p items walk.rest vs walk.walks walk.end wire in
        let w = Case k (Listed (of_length n vs)) in
        let none : k ≡ k + 0 = omega arith in
        listed (fields.Addresses n) (bytes_of_frames (addresses_from 0 (of_length n vs))) w (list_back table x.1 content has (length es) bare (forms.Addresses n) list named refl) (ap fields_in named) none
        (ap (λ l. elements_of (elements_at table k) (fields.Addresses n) k list 0 (l ++ rest)) is ∙ addresses_encoded (elements_at table k) n k (x.0 + 4) list rest end few items
        ∙ ap (λ a. Ok (bytes_of_frames (addresses_from 0 (of_length n a)))) (sym payloads))
        refl (same_ok v w value)
    by_given (Err y, wire, value) = absurd cc
  by_row (NestedList flagged rows named class low) = by_given (subst (λ o. GivesBy o f p (Ok v)) class given) where
    by_given : GivesBy (Some (Nested flagged rows)) f p (Ok v) → Goal
    by_given (Ok vs, wire, value) =
        let (items, walk, each) = stated (Some (Nested flagged rows)) (Some (forms.List flagged)) class named in
        let flag = nested_flag flagged in
        let w = Case k (Inner flagged vs) in
        listed (fields.List flag) (written_list (map lift vs)) w (list_back table x.1 content has (length es) bare (forms.List flagged) list named refl) (ap fields_in named) refl
        (nested_encoded (elements_at table k) (elements_formed table k formed) (λ j. element_no_list table k j formed) flag k list (x.0 + 4) p rest end short bytes stands 0 p items walk.rest es (map lift vs)
        walk.walks walk.end (suffix_whole p) each (wire_lifted (elements_at table k) rows p vs (ap elements_by class) wire))
        (written_same (map lift vs) vs refl) (same_ok v w value)
    by_given (Err y, wire, value) = absurd cc

  pub attribute_back : Goal
  attribute_back = by_row (row_says table k formed)

module _ (table : Table) (list : List ℕ) where
  -- elements add nothing to a list: their attribute does
  skipped : (below rest : List Entry) (t : List ℕ) → AreBelow below → entries_of table list rest ≡ Ok t → entries_of table list (below ++ rest) ≡ Ok t
  skipped [] rest t h is = is
  skipped (e ∷ below) rest t h is =
      ap₂ before (ap (λ n. cond (n == 0) (attribute_of table list e (below ++ rest)) (Ok [])) h.0) (skipped below rest t h.1 is)

  -- an attribute and its elements, then others
  one_more : (head : Entry) (below rest : List Entry) (s t : List ℕ) → head.depth ≡ 0 → AreBelow below → attribute_of table list head (below ++ rest) ≡ Ok s → entries_of table list rest ≡ Ok t
      → entries_of table list ((head ∷ below) ++ rest) ≡ Ok (s ++ t)
  one_more head below rest s t flat h is others =
      ap₂ before (ap (λ b. cond b (attribute_of table list head (below ++ rest)) (Ok [])) (eq-eqb head.depth 0 flat) ∙ is) (skipped below rest t h others)

  -- the attributes from some bytes on
  pub rest_back : is_table table ≡ true → IsBytes list → (s : List ℕ) (items : List Item) (u : List ℕ) (groups : List (List Entry)) (vs : List AttrValue) → Walks (length list) s items u → u ≡ [] → Suffix list s
      → AllZip (IsGroup table) items groups → Wire (Gives table) s vs → AllByRecursion Fits vs → (entries_of table list (joined groups) ≡ Ok (written_list vs)) × (begins_well (joined groups) ≡ true)
  rest_back formed bytes s [] u [] vs walks last suffix each wire fit = (ap (λ w. Ok (written_list w)) (sym (none_values (Gives table) s vs (walks ∙ last) wire)), refl)
  rest_back formed bytes s (x ∷ items) u (g ∷ groups) vs walks last suffix each wire fit =
      let (content, has, (below, elements, is)) = each.0 in
      let b = x.1 in
      let p = payload_after b in
      let k = kind_of (kind_field_of b) in
      let after = walks.1.0 in
      let split = walks.1.1 in
      let first = first_value (Gives table) s (kind_field_of b) p after vs (split_of s b after split) wire in
      let fits = subst (AllByRecursion Fits) first.is fit in
      let (others, begins) = rest_back formed bytes after items u groups first.others walks.1.2 last (suffix_rest list s b after suffix split) each.1 first.wire fits.1 in
      let stands : Located list (x.0 + 4) p = subst (λ n. Located list (n + 4) p) (sym walks.0) (suffix_payload list s b after suffix split) in
      let own_bytes : IsBytes p = subst IsBytes stands.is (bytes-take (length p) _ (bytes-drop (x.0 + 4) list bytes)) in
      let head = head_entry x content (length below) in
      let keeps = keeps_filled (kind_field_of b) content (length below) (blank k 0 0 (x.0 + 4) (length p)) in
      let one = attribute_back table formed list x content has below elements first.value first.given fits.0 (joined groups) begins own_bytes b.short stands in
      let all = one_more head below (joined groups) (written_frame first.value) (written_list first.others) keeps.depth (elements_below table k (x.0 + 4) content below elements) one others in (
        ap (λ group. entries_of table list (group ++ joined groups)) is ∙ all ∙ ap (λ w. Ok (written_list w)) (sym first.is),
        ap (λ group. begins_well (group ++ joined groups)) is ∙ eq-eqb head.depth 0 keeps.depth,
      )
  rest_back formed bytes s items u groups vs walks last suffix each wire fit = absurd each

-- the entries of a list encode to its rewriting
pub flat_back : (table : Table) → is_table table ≡ true → (list written : List ℕ) (es : List Entry) → IsBytes list → Flat table list es → Rewriting table list written → encoded_by table list es ≡ Ok written
flat_back table formed list written es bytes flat rewriting =
    let (all, begins) = rest_back table list formed bytes list flat.items flat.walk.rest flat.groups rewriting.values flat.walk.walks flat.walk.end (suffix_whole list) flat.each rewriting.wire rewriting.fit in
    ap (encoded_by table list) flat.joined
    ∙ ap (λ b. cond b (entries_of table list (joined flat.groups)) (Err (0, BadElement))) begins ∙ all ∙ ap Ok (sym rewriting.string)
