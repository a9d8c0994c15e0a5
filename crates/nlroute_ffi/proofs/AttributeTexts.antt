-- The entries of attributes and of elements have texts, which are those of their contents.
use Rattle.std.proofs.Common.{◌≡◌, inl, inr, ℕ, ◌+◌, ◌%◌, ◌==◌, ◌&&◌, ◌||◌, Bool, true, false, cond, List, [], ◌∷◌, length, take, drop, Option, Some, None, Ok, Err, refl, sym, ap, ap₂, subst, ◌∙◌, ◌-◌, ◌≤◌, ◌<◌, ◌++◌, min, arith}
use Rattle.std.specs.Prelude.{nat_lt, if◌then◌else◌}
use Rattle.std.specs.List.{AllZip, AllByRecursion}
use Rattle.std.proofs.lemmas.Bool.{cases_Bool, eqb-true, eq-eqb, lt-ltb}
use Rattle.std.proofs.lemmas.List.{append-nil, drop-drop, length-drop}
use Rattle.std.proofs.Math.Seq.{take-append_seam}
use Rattle.link_base.specs.declared.views.content.Content.{Content}
use Rattle.link_base.specs.declared.views.content.Content.TheVariants as contents
use Rattle.link_base.specs.declared.wire.fault.Cause.{Cause}
use Rattle.link_base.specs.declared.rows.form.ArrayOf.{ArrayOf}
use Rattle.link_base.specs.declared.rows.form.Look.TheVariants as looks
use Rattle.link_base.specs.declared.rows.form.Form.{Form}
use Rattle.link_base.specs.declared.rows.form.Form.TheVariants as forms
use Rattle.link_base.specs.declared.wire.buffer.NlaBuffer.{NlaBuffer}
use Rattle.link_base.specs.Forms.{size_in}
use Rattle.link_base.specs.Number.{IsBytes, bytes_of, bound}
use Rattle.link_base.specs.Frame.{kind_of, kind_limit, pad, bare, BeginsWith}
use Rattle.link_base.specs.Buffer.{kind_field_of, payload_of as payload_of_frame}
use Rattle.link_base.specs.Class.{Class, AtLeast, meant, written, extent, length_cause}
use Rattle.link_base.specs.Payloads.{class_by}
use Rattle.link_base.specs.Coherent.{is_single, IsShapeOf}
use Rattle.link_base.specs.Table.{Row, Shape, One, Nested, Addresses, Table, GivesBy, row_at, class_at, form_at, Label, label_at, label_by}
use Rattle.link_base.specs.WellFormed.{is_shape, is_table}
use Rattle.link_base.specs.Borrowed.{HasValue, Borrows, form_of, elements_at, HasContent}
use Rattle.link_base.proofs.Coherence.{row_sound, row_passes_all, elements_formed}
use Rattle.link_base.proofs.ContentBy.{one_accepted, single_shape}
use Rattle.link_base.proofs.Entries.{class_of_row, form_of_row, label_of_row, class_of_none, form_of_none, label_of_none}
use Rattle.link_base.proofs.Values.{bytes-take, bytes-drop}
use Rattle.link_messages.specs.Walk.{Item, Walks}
use Rattle.link_messages.proofs.Walking.{split_short}
use Rattle.netlink_packet_route.specs.declared.family.Family.{Family}
use Rattle.netlink_packet_route.specs.Family.{table_of}
use Rattle.netlink_packet_route.proofs.Families.{families_formed}
use Rattle.link_show.specs.Value.{other_text, content_text, value_text as shown_value}
use Rattle.link_entries.specs.declared.entry.Entry.{Entry}
use Rattle.link_entries.specs.declared.fields.Fields.{Fields}
use Rattle.link_entries.specs.declared.fields.Fields.TheVariants as fields
use Rattle.link_entries.specs.declared.misfit.Misfit.TheVariants.{BadElement, BadNumber}
use Rattle.link_entries.specs.Forms.{form_ipv4, form_ipv6, form_unknown}
use Rattle.link_entries.specs.Entry.{blank}
use Rattle.link_entries.specs.Content.{filled}
use Rattle.link_entries.specs.Fields.{ip_address, row_fields, fields_in}
use Rattle.link_entries.specs.Payload.{passed, payload_of}
use Rattle.link_entries.specs.Agreement.{referred}
use Rattle.link_entries.specs.Flat.{IsElement, IsGroup, Flat, head_entry, number_entry, address_entry}
use Rattle.link_entries.proofs.OneContent.{value_at, fields_by}
use Rattle.link_entries.proofs.RowForms.{is_list, with_kind, value_kind, value_no_list, struct_value}
use Rattle.link_entries.proofs.EntryFields.{Keeps, keeps_filled}
use Rattle.link_entries.proofs.BackElements.{array_back}
use Rattle.link_entries.proofs.BackValues.{StandsAt, right_form, passed_back, address_back}
use Rattle.link_entries.proofs.BackClasses.{class_back}
use Rattle.link_entries.proofs.BackSingles.{entry_by, list_back}
use Rattle.nlroute_ffi.specs.Names.{own_kind}
use Rattle.nlroute_ffi.specs.ValueText.{address_form, element_by, element_label, own_label, fields_for, payload_by, Shows, has_elements, IsContentBy, IsContent, plain_label, label_or_plain, IsText, IsEntryText}
use Rattle.nlroute_ffi.specs.Shown.{has_numbers, IsTextOf, HasText, IsAt}
use Rattle.nlroute_ffi.proofs.ShownBytes.{shown_again, value_of, single_of}
use Rattle.nlroute_ffi.proofs.EntryTexts.{borrows_back, limits_front}

-- ---- the row of an attribute type

-- what an entry encodes to, as the attribute b of a list of this table, if this is known of its type
pub record HasTexts (table : Table) (b : NlaBuffer) (list : List ℕ) (label : Option Label) (e : Entry) : Type 0 where
  pub text : (s : List ℕ) (x : Content) → Shows (fields_for label) e list s → IsContent label s x → IsTextOf table b (content_text (label_or_plain label) x)
  pub has : (p : List ℕ) × (payload_of (fields_for label) e list ≡ Ok p)

-- the payload of an attribute whose type has no row
unknown_back : (e : Entry) (f : ℕ) (list p : List ℕ) → e.form ≡ form_unknown → e.kind ≡ kind_of f → e.flags ≡ f - kind_of f → StandsAt e list p → payload_of fields.Unknown e list ≡ Ok p
unknown_back e f list p same kind flags at =
    let low : nat_lt e.kind kind_limit ≡ true = lt-ltb e.kind kind_limit (omega (arith, kind)) in
    let none : (e.flags % kind_limit == 0) ≡ true = eq-eqb (e.flags % kind_limit) 0 (omega (arith, flags)) in
    right_form fields.Unknown e list same
    ∙ ap₂ (λ a b. cond (a && b) (passed None e list) (Err BadNumber)) low none ∙ passed_back None e list p at refl

-- a list encodes to nothing, whatever its type
list_kind : (own : Fields) (e : Entry) (k : ℕ) (octets : List ℕ) → is_list own ≡ true → payload_of own (with_kind e k) octets ≡ payload_of own e octets
list_kind (fields.Numbers a) e k octets h = refl
list_kind (fields.Addresses size) e k octets h = refl
list_kind (fields.List flag) e k octets h = refl
list_kind own e k octets h = absurd cc

list_fields : (form : Form) → has_elements form ≡ true → is_list (row_fields form) ≡ true
list_fields (forms.Numbers w) h = refl
list_fields (forms.Addresses size) h = refl
list_fields (forms.List flagged) h = refl
list_fields form h = absurd cc

-- numbers with entries of their own are in lists, and lists have no text
no_numbers : (x : Content) → is_list (fields_in (form_of x)) ≡ false → has_numbers x ≡ false
no_numbers (contents.Numbers w p) h = absurd cc
no_numbers x h = refl

no_words : (label : Label) (x : Content) → is_list (fields_in (form_of x)) ≡ true → (if has_numbers x then [] else shown_value (Some label) x) ≡ []
no_words label (contents.Numbers w p) h = refl
no_words label (contents.Addresses p size) h = refl
no_words label (contents.List p flagged) h = refl
no_words label (contents.Struct layout p) h = let no = value_no_list _ (struct_value layout) in absurd cc
no_words label (contents.Bytes looks.Peer p) h = absurd cc
no_words label x h = absurd cc

module _ (table : Table) (formed : is_table table ≡ true) (b : NlaBuffer) (n : ℕ) (e : Entry) (list : List ℕ) (at : StandsAt e list (payload_of_frame b)) (bytes : IsBytes list) where
  abbrev f : ℕ
  f = kind_field_of b

  abbrev k : ℕ
  k = kind_of (kind_field_of b)

  abbrev p : List ℕ
  p = payload_of_frame b

  payload_bytes : IsBytes p
  payload_bytes = subst IsBytes at.is (bytes-take (length p) (drop e.offset list) (bytes-drop e.offset list bytes))

  module _ (x : Content) (has : HasContent table b x) where
    abbrev new : Entry
    new = with_kind (filled (kind_field_of b) x n e) (kind_of (kind_field_of b))

    -- a content without a row
    unknown_text : (s : List ℕ) (y : Content) → row_at table k ≡ None → s ≡ p → Borrows None s y → IsTextOf table b (content_text plain_label y)
    unknown_text s (contents.Other c) row same is = (
      contents.Other c,
      record { decodes = has.decodes; borrows = subst (λ o. Borrows o p (contents.Other c)) (sym (class_of_none table k row)) (is ∙ same); form = sym (form_of_none table k row) },
      subst (λ (l : Option Label). other_text c.now ≡ shown_value l (contents.Other c)) (sym (label_of_none table k row)) refl,
    )
    unknown_text s y row same is = absurd is

    unknown_texts : row_at table k ≡ None → HasTexts table b list None new
    unknown_texts row =
        let entry = entry_by table b x has n e None None (form_of_none table k row) (class_of_none table k row) in
        let full : Entry = with_kind (fields_by f None (value_at None p) n e) k in
        let payload : payload_of fields.Unknown new list ≡ Ok p =
        ap (λ d. payload_of fields.Unknown (with_kind d k) list) entry
        ∙ unknown_back full f list p refl refl refl (record { size = at.size; within = at.within; short = at.short; is = at.is }) in
        record { text = λ s y shows is. unknown_text s y row (shown_again fields.Unknown new list p s refl payload shows) is; has = (p, payload) }

    module _ (r : Row Shape) (row : row_at table (kind_of (kind_field_of b)) ≡ Some r) where
      abbrev own : Label
      own = label_by r

      named : form_at table k ≡ Some r.form
      named = form_of_row table k r row

      -- a list
      list_text : has_elements r.form ≡ true → (y : Content) → IsContentBy true own [] y → IsTextOf table b (content_text own y)
      list_text listed y is = (
        x,
        has,
        subst (λ (l : Option Label). content_text own y ≡ (if has_numbers x then [] else shown_value l x)) (sym (label_of_row table k r row))
            (ap (content_text own) is ∙ sym (no_words own x (ap (λ o. is_list (fields_in o)) (has.form ∙ named) ∙ list_fields r.form listed))),
      )

      list_texts : has_elements r.form ≡ true → HasTexts table b list (Some own) new
      list_texts listed =
          let looked = list_fields r.form listed in
          let payload = list_kind (row_fields r.form) (filled f x n e) k list looked ∙ list_back table b x has n e r.form list named looked in
          record { text = λ s y shows is. list_text listed y (subst (λ t. IsContentBy t own s y) listed is); has = ([], payload) }

      -- a single value
      module _ (plain : has_elements r.form ≡ false) where
        abbrev c : Class
        c = class_by r.form r.names

        class : class_at table k ≡ Some (One (class_by r.form r.names))
        class = class_of_row table k r row ∙ ap Some (single_shape r.form r.names r.class (single_of r.form plain) (row_sound table k r formed row))

        accepted : length_cause (extent (class_by r.form r.names)) (length p) ≡ None
        accepted = one_accepted table f p c class has.decodes

        entry : new ≡ with_kind (fields_by (kind_field_of b) (Some r.form) (meant (class_by r.form r.names) (payload_of_frame b)) n e) (kind_of (kind_field_of b))
        entry = ap (λ d. with_kind d k) (entry_by table b x has n e (Some r.form) (Some (One c)) named class)

        payload : payload_of (row_fields r.form) new list ≡ Ok (written (meant (class_by r.form r.names) (payload_of_frame b)))
        payload =
            let one = value_of r.form plain in
            value_kind (row_fields r.form) (filled f x n e) k list one
            ∙ ap (λ d. payload_of (row_fields r.form) d list) (entry_by table b x has n e (Some r.form) (Some (One c)) named class)
            ∙ class_back f n e list p payload_bytes at r.form r.names one accepted

        front : r.form ≡ forms.Limits → referred new list ≡ take 48 p
        front is =
            let full : new ≡ with_kind (fields_by f (Some forms.Limits) (meant c p) n e) k = entry ∙ ap (λ g. with_kind (fields_by f (Some g) (meant c p) n e) k) is in
            let ok : length_cause (AtLeast 48) (length p) ≡ None = subst (λ g. length_cause (extent (class_by g r.names)) (length p) ≡ None) is accepted in
            limits_front e new list p at ok (ap (λ d. d.length) full) (ap (λ d. d.offset) full)

        value_text : (s : List ℕ) (y : Content) → Shows (row_fields r.form) new list s → IsContentBy false own s y → IsTextOf table b (content_text own y)
        value_text s y shows (borrows, form) =
            let borrowed = borrows_back new list p s payload_bytes y r.form r.names plain accepted payload shows front borrows in
            let none = no_numbers y (ap (λ o. is_list (fields_in o)) form ∙ value_no_list (row_fields r.form) (value_of r.form plain)) in (
              y,
              record { decodes = has.decodes; borrows = subst (λ o. Borrows o p y) (sym class) borrowed; form = form ∙ sym named },
              subst (λ (l : Option Label). content_text own y ≡ (if has_numbers y then [] else shown_value l y)) (sym (label_of_row table k r row)) (ap (λ t. cond t [] (content_text own y)) (sym none)),
            )

        value_texts : HasTexts table b list (Some own) new
        value_texts = record { text = λ s y shows is. value_text s y shows (subst (λ t. IsContentBy t own s y) plain is); has = (written (meant c p), payload) }

      row_texts : HasTexts table b list (Some own) new
      row_texts =
          elim (cases_Bool (has_elements r.form)) [
            | inl listed ↦ list_texts listed
            | inr plain ↦ value_texts plain
          ]

    by_row : (o : Option (Row Shape)) → row_at table k ≡ o → HasTexts table b list (label_at table k) new
    by_row None row = subst (λ (l : Option Label). HasTexts table b list l new) (sym (label_of_none table k row)) (unknown_texts row)
    by_row (Some r) row = subst (λ (l : Option Label). HasTexts table b list l new) (sym (label_of_row table k r row)) (row_texts r row)

-- ---- entries

-- an entry whose type has this label
pub record HasItsTexts (family : Family) (table : Table) (b : NlaBuffer) (list : List ℕ) (e : Entry) : Type 0 where
  pub text : (words : List ℕ) → IsEntryText family e list words → IsTextOf table b words
  pub has : HasText family list e

texts_by : (family : Family) (table : Table) (b : NlaBuffer) (list : List ℕ) (e : Entry) (k : ℕ) (label : Option Label) → own_label family e ≡ Ok label → own_kind e ≡ k → HasTexts table b list label (with_kind e k) → HasItsTexts family table b list e
texts_by family table b list e k label is kind texts =
    let h = subst (λ j. HasTexts table b list label (with_kind e j)) (sym kind) texts in
    record {
      text = λ words said.
          let (s, shows, (x, borrowed, same)) = subst (λ o. IsText o e list words) is said in
          subst (IsTextOf table b) (sym same) (h.text s x shows borrowed);
      has = (h.has.0, ap (λ o. payload_by o e list) is ∙ h.has.1);
    }

-- the label of the entry of an attribute
pub head_label : (family : Family) (e : Entry) (k : ℕ) → e.depth ≡ 0 → e.kind ≡ k → own_label family e ≡ Ok (label_at (table_of family) k)
head_label family e k top kind =
    ap (λ i. cond (i == 0) (Ok (label_at (table_of family) e.kind)) (cond (i == 1) (element_label (label_at (table_of family) e.kind) (label_at (elements_at (table_of family) e.kind) e.inner)) (Err BadElement))) top
    ∙ ap (λ j. Ok (label_at (table_of family) j)) kind

pub head_kind : (e : Entry) (k : ℕ) → e.depth ≡ 0 → e.kind ≡ k → own_kind e ≡ k
head_kind e k top kind = ap (λ i. cond (i == 0) e.kind e.inner) top ∙ kind

attribute_texts : (family : Family) (list : List ℕ) (x : Item) (content : Content) (n : ℕ) → IsBytes list → IsAt list (x.0 + 4) x.1 → HasContent (table_of family) x.1 content → HasItsTexts family (table_of family) x.1 list (head_entry x content n)
attribute_texts family list x content n bytes at has =
    let table = table_of family in
    let k = kind_of (kind_field_of x.1) in
    let e0 : Entry = blank k 0 0 (x.0 + 4) (length (payload_of_frame x.1)) in
    let stands : StandsAt e0 list (payload_of_frame x.1) = record { size = refl; within = at.0; short = x.1.short; is = at.1 } in
    let new = head_entry x content n in
    let keeps : Keeps e0 new = keeps_filled (kind_field_of x.1) content n e0 in
    texts_by family table x.1 list new k (label_at table k) (head_label family new k keeps.depth keeps.kind) (head_kind new k keeps.depth keeps.kind)
    (by_row table (families_formed family) x.1 n e0 list stands bytes content has (row_at table k) refl)

-- the label of an element of a list of this form
pub record IsListLabel (family : Family) (k : ℕ) (form : Form) : Type 0 where
  pub label : Label
  pub is : (own : Option Label) → element_label (label_at (table_of family) k) own ≡ element_by form label own

pub list_label : (family : Family) (k : ℕ) (form : Form) → form_at (table_of family) k ≡ Some form → IsListLabel family k form
list_label family k form named = by_row_of (row_at (table_of family) k) refl where
  by_row_of : (o : Option (Row Shape)) → row_at (table_of family) k ≡ o → IsListLabel family k form
  by_row_of None at = let none : None ≡ Some form = sym (form_of_none (table_of family) k at) ∙ named in absurd cc
  by_row_of (Some r) at =
      let same : r.form ≡ form = cc (form_of_row (table_of family) k r at) in
      record { label = label_by r; is = λ own. ap (λ l. element_label l own) (label_of_row (table_of family) k r at) ∙ ap (λ g. element_by g (label_by r) own) same }

-- that of any element
pub below_label : (family : Family) (e : Entry) → e.depth ≡ 1 → own_label family e ≡ element_label (label_at (table_of family) e.kind) (label_at (elements_at (table_of family) e.kind) e.inner)
below_label family e below =
    let table = table_of family in
    ap (λ d. cond (d == 0) (Ok (label_at table e.kind)) (cond (d == 1) (element_label (label_at table e.kind) (label_at (elements_at table e.kind) e.inner)) (Err BadElement))) below

-- that of an element of a nested list
pub nested_label : (family : Family) (flagged : Bool) (e : Entry) (k i : ℕ) → e.depth ≡ 1 → e.kind ≡ k → e.inner ≡ i → form_at (table_of family) k ≡ Some (forms.List flagged)
    → own_label family e ≡ Ok (label_at (elements_at (table_of family) k) i)
nested_label family flagged e k i below kind inner named =
    let table = table_of family in
    below_label family e below
    ∙ ap₂ (λ j h. element_label (label_at table j) (label_at (elements_at table j) h)) kind inner ∙ (list_label family k (forms.List flagged) named).is (label_at (elements_at table k) i)

pub element_kind : (e : Entry) (i : ℕ) → e.depth ≡ 1 → e.inner ≡ i → own_kind e ≡ i
element_kind e i below inner = ap (λ d. cond (d == 0) e.kind e.inner) below ∙ inner

pub element_texts : (family : Family) (list : List ℕ) (k offset : ℕ) (flagged : Bool) (b : NlaBuffer) (e : Entry) → IsBytes list → form_at (table_of family) k ≡ Some (forms.List flagged) → IsAt list offset b
    → IsElement (elements_at (table_of family) k) k offset b e → HasItsTexts family (elements_at (table_of family) k) b list e
element_texts family list k offset flagged b e bytes form at (content, has, is) =
    let f = kind_field_of b in
    let i = kind_of f in
    let table = elements_at (table_of family) k in
    let e0 : Entry = blank k i 1 offset (length (payload_of_frame b)) in
    let stands : StandsAt e0 list (payload_of_frame b) = record { size = refl; within = at.0; short = b.short; is = at.1 } in
    let new = filled f content 0 e0 in
    let keeps : Keeps e0 new = keeps_filled f content 0 e0 in
    subst (HasItsTexts family table b list) (sym is)
    (texts_by family table b list new i (label_at table i) (nested_label family flagged new k i keeps.depth keeps.kind keeps.inner form) (element_kind new i keeps.depth keeps.inner)
    (by_row table (elements_formed (table_of family) k (families_formed family)) b 0 e0 list stands bytes content has (row_at table i) refl))

-- ---- a list

-- the payload at the start of bytes that begin with an attribute
payload_front : (s : List ℕ) (f : ℕ) (p : List ℕ) → BeginsWith s (bare f p) → take (length p) (drop 4 s) ≡ p
payload_front s f p h =
    ap (λ r. take (length p) (drop 4 r)) h.string ∙ ap (λ q. take (length p) (q ++ h.rest)) (append-nil p) ∙ take-append_seam p h.rest

-- the attributes of a list are in it
walk_at : (list : List ℕ) (items : List Item) (s t : List ℕ) → Walks (length list) s items t → length s ≤ length list → drop (length list - length s) list ≡ s → AllByRecursion (λ x. IsAt list (x.0 + 4) x.1) items
walk_at list [] s t h few is = tt
walk_at list (x ∷ items) s t (at, (u, split, walks)) few is =
    let p = payload_of_frame x.1 in
    let step = min (pad (4 + length p)) (length s) in
    let whole = split_short s x.1 u split in
    let start : drop (x.0 + 4) list ≡ drop 4 s = sym (drop-drop 4 x.0 list) ∙ ap (λ i. drop 4 (drop i list)) at ∙ ap (drop 4) is in
    let left : length u ≡ length s - step = ap length split.1 ∙ length-drop step s in
    let next : length list - length u ≡ (length list - length s) + step = omega (arith, left, few) in (
      (omega (arith, at, whole.0, few), ap (take (length p)) start ∙ payload_front s (kind_field_of x.1) p split.0),
      walk_at list items u t walks (omega (arith, whole.1, few))
          (ap (λ i. drop i list) next ∙ sym (drop-drop step (length list - length s) list) ∙ ap (drop step) is ∙ sym split.1),
    )

-- what holds of each attribute with its entries
module _ (family : Family) (list : List ℕ) (Q : Item → List Entry → Type 0) (texts : (x : Item) (e : Entry) (es : List Entry) → HasItsTexts family (table_of family) x.1 list e → Q x (e ∷ es)) (bytes : IsBytes list) where
  heads : (items : List Item) (groups : List (List Entry)) → AllByRecursion (λ x. IsAt list (x.0 + 4) x.1) items → AllZip (IsGroup (table_of family)) items groups → AllZip Q items groups
  heads [] [] at h = tt
  heads [] (g ∷ groups) at h = absurd h
  heads (x ∷ items) [] at h = absurd h
  heads (x ∷ items) (g ∷ groups) at h =
      let (content, has, (elements, are, is)) = h.0 in (
        subst (Q x) (sym is) (texts x (head_entry x content (length elements)) elements (attribute_texts family list x content (length elements) bytes at.0 has)),
        heads items groups at.1 h.1,
      )

  pub of_list : (es : List Entry) (flat : Flat (table_of family) list es) → AllZip Q flat.items flat.groups
  of_list es flat =
      let none : length list - length list ≡ 0 = omega arith in
      heads flat.items flat.groups (walk_at list flat.items list flat.walk.rest flat.walk.walks (omega arith) (ap (λ i. drop i list) none)) flat.each

-- ---- numbers of arrays, and addresses of lists

-- an address has 4 or 16 bytes
ip_shape : (form : Form) (names : List (ℕ × List ℕ)) (shape : Shape) (m : ℕ) → form ≡ forms.Addresses m → IsShapeOf form names shape → is_shape shape ≡ true → ((m == 4) || (m == 16)) ≡ true
ip_shape form names (One c) m is texts ok = let no : is_single (forms.Addresses m) ≡ true = subst (λ g. is_single g ≡ true) is texts.0 in absurd cc
ip_shape (forms.Addresses n) names (Addresses size) m is texts ok = let same : n ≡ m = cc in subst (λ j. ((j == 4) || (j == 16)) ≡ true) (sym texts ∙ same) ok
ip_shape (forms.List flagged) names (Nested wanted rows) m is texts ok = absurd cc
ip_shape form names shape m is texts ok = absurd texts

-- the fields of such an address
abbrev IpFields : ℕ → Type 0
IpFields m = (row_fields (address_form m) ≡ ip_address m) × (m ≤ 16)

pub ip_fields : (table : Table) (k m : ℕ) → is_table table ≡ true → form_at table k ≡ Some (forms.Addresses m) → (row_fields (address_form m) ≡ ip_address m) × (m ≤ 16)
ip_fields table k m formed named = by_row_of (row_at table k) refl where
  by_test : ((m == 4) || (m == 16)) ≡ true → IpFields m
  by_test h =
      elim (cases_Bool (m == 4)) [
        | inl four ↦ subst IpFields (sym (eqb-true m 4 four)) (refl, omega arith)
        | inr other ↦ subst IpFields (sym (eqb-true m 16 (sym (ap (λ b. b || (m == 16)) other) ∙ h))) (refl, omega arith)
      ]

  by_row_of : (o : Option (Row Shape)) → row_at table k ≡ o → IpFields m
  by_row_of None at = let none : None ≡ Some (forms.Addresses m) = sym (form_of_none table k at) ∙ named in absurd cc
  by_row_of (Some r) at =
      let same : r.form ≡ forms.Addresses m = cc (form_of_row table k r at) in
      by_test (ip_shape r.form r.names r.class m same (row_sound table k r formed at) (row_passes_all table k r formed at).shape)

module _ (family : Family) (list : List ℕ) (k i : ℕ) where
  abbrev inner_label : Option Label
  inner_label = label_at (elements_at (table_of family) k) i

  pub number_held : (a : ArrayOf) (at x : ℕ) → form_at (table_of family) k ≡ Some (forms.Numbers a) → x < bound (size_in a) → HasText family list (number_entry k at a i x)
  number_held a at x named low =
      let e = number_entry k at a i x in
      (bytes_of (size_in a) x, ap (λ o. payload_by o e list) ((list_label family k (forms.Numbers a) named).is inner_label) ∙ array_back a (with_kind e i) list x refl refl low)

  pub address_held : (offset : ℕ) (p : List ℕ) → form_at (table_of family) k ≡ Some (forms.Addresses (length p)) → HasText family list (address_entry k i offset p)
  address_held offset p named =
      let e = address_entry k i offset p in
      let m = length p in
      let ip = ip_fields (table_of family) k m (families_formed family) named in (
        p,
        ap (λ o. payload_by o e list) ((list_label family k (forms.Addresses m) named).is inner_label)
            ∙ ap (λ row. payload_of row (with_kind e i) list) ip.0
            ∙ address_back (cond (m == 4) form_ipv4 form_ipv6) m (with_kind e i) list p refl refl refl ip.1 refl,
      )
