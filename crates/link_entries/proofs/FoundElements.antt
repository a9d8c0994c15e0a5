-- The last element of a type or index: of a nested list, of an array, and of an attribute.
use Rattle.std.proofs.Common.{◌≡◌, ◌≢◌, ℕ, zero, suc, ◌+◌, ◌*◌, ◌/◌, ◌<◌, ◌≤◌, ◌==◌, Bool, cond, List, [], ◌∷◌, length, Option, Some, None, refl, sym, ap, ap₂, subst, ◌∙◌, arith, get_or, Bor}
use Rattle.std.specs.List.{filter, last_or}
use Rattle.std.proofs.lemmas.List.{map-id}
use Rattle.std.proofs.lemmas.List.Concat.{flat_map_single}
use Rattle.std.proofs.lemmas.Bool.{eq-eqb, ne_eqb, cond-true, cond-false}
use Rattle.link_base.specs.Forms.{size_in}
use Rattle.link_base.specs.declared.rows.form.ArrayOf.{ArrayOf}
use Rattle.link_base.specs.declared.views.content.Content.{Content}
use Rattle.link_base.specs.declared.views.content.Content.TheVariants as contents
use Rattle.link_base.specs.Frame.{kind_of}
use Rattle.link_base.specs.Buffer.{kind_field_of, payload_of}
use Rattle.link_base.specs.Layout.{number_at, numbers_at, numbers_of}
use Rattle.link_base.specs.Table.{Table, Shape, class_at}
use Rattle.link_base.specs.Borrowed.{Borrows, form_of, elements_at}
use Rattle.link_messages.specs.Walk.{Item, Walk}
use Rattle.link_messages.specs.BeforeFault.{last_item}
use Rattle.link_entries.specs.declared.entry.Entry.{Entry}
use Rattle.link_entries.specs.Flat.{indexed, number_entry, number_entries, IsElement, AreElements, IsGroup}
use Rattle.link_entries.specs.Finding.{BothOrNone, last_inner, IsOneElement, IsLastElement, IsElementFound}
use Rattle.link_entries.proofs.LastOf.{has_kind, zip_last, one_last}
use Rattle.link_entries.proofs.EntryFields.{keeps_filled}
use Rattle.link_entries.proofs.Shapes.{list_payload, no_elements, ElementsBy, elements_by, elements_by_form}
use Rattle.link_entries.proofs.ElementEntries.{length-numbers_at}
use Rattle.link_entries.proofs.Unique.{one_element, one_below}

-- whether an entry has this own type or index
abbrev is_inner : ℕ → Entry → Bool
is_inner i e = e.inner == i

-- ---- nested lists

module _ (table : Table) (k at : ℕ) where
  element_kind : (i : ℕ) (x : Item) (e : Entry) → IsElement table k (at + (x.0 + 4)) x.1 e → (b : Entry) × IsElement table k (at + (x.0 + 4)) x.1 b × (filter (is_inner i) (e ∷ []) ≡ cond (has_kind i x) (b ∷ []) [])
  element_kind i x e h =
      let inner : e.inner ≡ kind_of (kind_field_of x.1) = ap (λ d. d.inner) h.2 ∙ (keeps_filled (kind_field_of x.1) h.0 0 _).inner in
      (e, h, ap (λ n. cond (n == i) (e ∷ []) []) inner)

  -- the last element of a type in a nested list
  pub nested_found : (i : ℕ) (list : List ℕ) (found : Option Entry) → (items : List Item) × Walk list items None × IsOneElement table k at (last_item i items) found → (es : List Entry) → AreElements table k at list es
      → found ≡ last_inner i es
  nested_found i list found (items, walk, is) es (items', walk', each) =
      let R : Item → Entry → Type 0 = λ x e. IsElement table k (at + (x.0 + 4)) x.1 e in
      let last = zip_last R (has_kind i) (is_inner i) R (λ e. e ∷ []) (element_kind i) items' es None None each tt in
      one_last R (one_element table k at) i list items items' found (last_inner i es) walk walk' is
      (subst (λ l. BothOrNone R (last_item i items') (last_inner i l)) (flat_map_single (λ e. e) es ∙ map-id es) last)

-- ---- arrays

module _ {A : Type 0} (f : ℕ → A → Entry) (own : (i : ℕ) (x : A) → (f i x).inner ≡ i) where
  -- an entry with another index is passed over
  passed_at : (i j : ℕ) (x : A) (xs : List A) → j ≢ i → filter (is_inner i) (indexed f j (x ∷ xs)) ≡ filter (is_inner i) (indexed f (j + 1) xs)
  passed_at i j x xs other = cond-false (is_inner i (f j x)) _ _ (ap (λ n. n == i) (own j x) ∙ ne_eqb j i other)

  -- no entry has an index below the first, or above the last
  none_below : (i j : ℕ) (xs : List A) → i < j → filter (is_inner i) (indexed f j xs) ≡ []
  none_below i j [] h = refl
  none_below i j (x ∷ xs) h = passed_at i j x xs (λ e. omega arith) ∙ none_below i (j + 1) xs (omega arith)

  none_above : (i j : ℕ) (xs : List A) → j + length xs ≤ i → filter (is_inner i) (indexed f j xs) ≡ []
  none_above i j [] h = refl
  none_above i j (x ∷ xs) h = passed_at i j x xs (λ e. omega arith) ∙ none_above i (j + 1) xs (omega arith)

  -- one entry has an index between
  one_at : (i j : ℕ) (xs : List A) (d : A) (n : ℕ) → i ≡ j + n → n < length xs → filter (is_inner i) (indexed f j xs) ≡ f i (get_or xs n d) ∷ []
  one_at i j [] d n e h = absurd (omega arith)
  one_at i j (x ∷ xs) d zero e h =
      let here : i ≡ j = omega (arith, e) in
      cond-true (is_inner i (f j x)) _ _ (ap (λ n. n == i) (own j x) ∙ eq-eqb j i (sym here)) ∙ ap₂ (λ m es. f m x ∷ es) (sym here) (none_below i (j + 1) xs (omega arith))
  one_at i j (x ∷ xs) d (suc n) e h = passed_at i j x xs (λ same. omega arith) ∙ one_at i (j + 1) xs d n (omega (arith, e)) (omega arith)

get_or-numbers_at : (width n offset i : ℕ) (p : List ℕ) → i < n → get_or (numbers_at width n offset p) i 0 ≡ number_at width (offset + i * width) p
get_or-numbers_at width zero offset i p h = absurd (omega arith)
get_or-numbers_at width (suc n) offset zero p h = let here : offset ≡ offset + 0 * width = omega arith in ap (λ at. number_at width at p) here
get_or-numbers_at width (suc n) offset (suc i) p h =
    let there : offset + width + i * width ≡ offset + suc i * width = omega arith in
    get_or-numbers_at width n (offset + width) i p (omega arith) ∙ ap (λ at. number_at width at p) there

module _ (k at : ℕ) (a : ArrayOf) (p : List ℕ) (i : ℕ) where
  abbrev width : ℕ
  width = size_in a

  -- the number at an index
  pub number_found : i < length p / width → Some (number_entry k at a i (number_at width (i * width) p)) ≡ last_inner i (number_entries k at a p)
  number_found h =
      let xs = numbers_of width p in
      let size = length-numbers_at width (length p / width) 0 p in
      let one = one_at (number_entry k at a) (λ j x. refl) i 0 xs 0 i (omega arith) (omega (arith, size)) in
      let is : get_or xs i 0 ≡ number_at width (i * width) p =
      get_or-numbers_at width (length p / width) 0 i p h ∙ (let here : 0 + i * width ≡ i * width = omega arith in ap (λ o. number_at width o p) here) in
      sym (ap (last_or None) one ∙ ap (λ x. Some (number_entry k at a i x)) is)

  pub number_absent : length p / width ≤ i → None ≡ last_inner i (number_entries k at a p)
  number_absent h =
      let size = length-numbers_at width (length p / width) 0 p in
      sym (ap (last_or None) (none_above (number_entry k at a) (λ j x. refl) i 0 (numbers_of width p) (omega (arith, size))))

-- ---- contents

-- a content that is neither a list nor an array has no last element
pub none_last : (table : Table) (k at i : ℕ) (x : Content) → ((a : ArrayOf) (p : Bor (List ℕ)) → x ≡ contents.Numbers a p → ⊥) → ((p : Bor (List ℕ)) (n : ℕ) → x ≡ contents.Addresses p n → ⊥)
    → ((p : Bor (List ℕ)) (stated : Bool) → x ≡ contents.List p stated → ⊥) → IsLastElement table k at x i None
none_last table k at i (contents.List p stated) a b c = absurd (c p stated refl)
none_last table k at i x a b c = ([], no_elements table k at x a b c, refl)

-- the last element of a content is the last of its entries
last_of : (table : Table) (k at i : ℕ) (o : Option Shape) (p : List ℕ) (x : Content) (found : Option Entry) (es : List Entry) → Borrows o p x → IsLastElement table k at x i found → ElementsBy table k at o p (form_of x) es → found ≡ last_inner i es
last_of table k at i o p (contents.List list stated) found es a h elements =
    nested_found (elements_at table k) k at i p found (subst (λ l. (items : List Item) × Walk l items None × IsOneElement (elements_at table k) k at (last_item i items) found) (list_payload o p list stated a) h) es elements
last_of table k at i o p x found es a (mine, are, is) elements = is ∙ ap (last_inner i) (one_below table k at o p (form_of x) mine es (elements_by table k at o p mine x a are) elements)

-- what is found in an attribute is the last element among its entries
pub found_in_group : (table : Table) (x : Item) (i : ℕ) (found : Option Entry) (e : Entry) (es : List Entry) → IsElementFound table (Some x) i found → IsGroup table x (e ∷ es) → found ≡ last_inner i es
found_in_group table x i found e es (content, has, last) (other, its, (below, elements, is)) =
    let k = kind_of (kind_field_of x.1) in
    let o = class_at table k in
    let p = payload_of x.1 in
    let same : es ≡ below = cc in
    let stated = elements_by_form table x.1 other its (x.0 + 4) below elements k p refl refl o (form_of content) refl (sym has.form) in
    last_of table k (x.0 + 4) i o p content found below has.borrows last stated ∙ ap (last_inner i) (sym same)
