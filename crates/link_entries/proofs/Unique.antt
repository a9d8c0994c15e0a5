-- A list has one array of entries only.
use Rattle.std.proofs.Common.{◌≡◌, ℕ, ◌+◌, ◌==◌, true, false, cond, List, [], ◌∷◌, length, map, Option, Some, None, refl, sym, ap, ap₂, subst, ◌∙◌}
use Rattle.std.specs.List.{AllZip, filter, flat_map}
use Rattle.link_base.specs.declared.rows.form.Form.{Form}
use Rattle.link_base.specs.declared.rows.form.Form.TheVariants as forms
use Rattle.link_base.specs.Frame.{kind_of}
use Rattle.link_base.specs.Buffer.{kind_field_of, payload_of}
use Rattle.link_base.specs.Table.{Table, Shape, class_at, form_at}
use Rattle.link_base.specs.Borrowed.{elements_at}
use Rattle.link_messages.specs.Walk.{Item}
use Rattle.link_messages.specs.BeforeFault.{seen_of}
use Rattle.link_messages.proofs.Walking.{walk_unique}
use Rattle.link_entries.specs.declared.entry.Entry.{Entry}
use Rattle.link_entries.specs.Entry.{blank}
use Rattle.link_entries.specs.Flat.{indexed, address_entry, is_address, AreAddresses, IsElement, AreElements, head_entry, IsGroup, Flat}
use Rattle.link_entries.proofs.OneContent.{value_at, fields_by, entry_read}
use Rattle.link_entries.proofs.Shapes.{ElementsBy, elements_by_form}

-- what stands beside items that are alike is the same
zip_one : {A B K : Type 0} (key : A → K) (R : A → B → Type 0) → ((x y : A) (b c : B) → key x ≡ key y → R x b → R y c → b ≡ c) → (xs ys : List A) (bs cs : List B) → map key xs ≡ map key ys
    → AllZip R xs bs → AllZip R ys cs → bs ≡ cs
zip_one key R one [] [] [] [] e h k = refl
zip_one key R one (x ∷ xs) (y ∷ ys) (b ∷ bs) (c ∷ cs) e h k =
    let same : key x ≡ key y = cc in
    let rest : map key xs ≡ map key ys = cc in
    ap₂ (λ d ds. d ∷ ds) (one x y b c same h.0 k.0) (zip_one key R one xs ys bs cs rest h.1 k.1)
zip_one key R one xs ys bs cs e h k = absurd (first_of (cc, assumption))

-- ---- elements

pub one_element : (table : Table) (k at : ℕ) (x y : Item) (e e' : Entry) → seen_of x ≡ seen_of y → IsElement table k (at + (x.0 + 4)) x.1 e → IsElement table k (at + (y.0 + 4)) y.1 e' → e ≡ e'
one_element table k at x y e e' same (content, has, is) (other, its, that) =
    let f : kind_field_of x.1 ≡ kind_field_of y.1 = ap (λ s. s.1) same in
    let p = payload_of y.1 in
    let j = kind_of (kind_field_of y.1) in
    is ∙ entry_read table x.1 content has 0 (λ i n. blank k i 1 (at + (x.0 + 4)) n) j p (ap kind_of f) (ap (λ s. s.2) same)
    ∙ ap (λ s. fields_by s.1 (form_at table j) (value_at (class_at table j) p) 0 (blank k j 1 (at + (s.0 + 4)) (length p))) same
    ∙ sym (that ∙ entry_read table y.1 other its 0 (λ i n. blank k i 1 (at + (y.0 + 4)) n) j p refl refl)

one_nested : (table : Table) (k at : ℕ) (list : List ℕ) (es es' : List Entry) → AreElements table k at list es → AreElements table k at list es' → es ≡ es'
one_nested table k at list es es' (items, walk, each) (items', walk', each') =
    zip_one seen_of (λ x e. IsElement table k (at + (x.0 + 4)) x.1 e) (one_element table k at) items items' es es' (walk_unique list items items' None None walk walk').0 each each'

-- the addresses among some items, by what is seen of them
filtered : (k at n i : ℕ) (items : List Item) → indexed (λ i x. address_entry k i (at + (x.0 + 4)) (payload_of x.1)) i (filter (is_address n) items)
    ≡ indexed (λ i s. address_entry k i (at + (s.0 + 4)) s.2) i (filter (λ s. length s.2 == n) (map seen_of items))
filtered k at n i [] = refl
filtered k at n i (x ∷ items) =
    elim (length (payload_of x.1) == n) as (
    λ b. indexed (λ i x. address_entry k i (at + (x.0 + 4)) (payload_of x.1)) i (cond b (x ∷ filter (is_address n) items) (filter (is_address n) items))
    ≡ indexed (λ i s. address_entry k i (at + (s.0 + 4)) s.2) i
    (cond b (seen_of x ∷ filter (λ s. length s.2 == n) (map seen_of items)) (filter (λ s. length s.2 == n) (map seen_of items)))
    ) [
      | true ↦ ap (λ t. address_entry k i (at + (x.0 + 4)) (payload_of x.1) ∷ t) (filtered k at n (i + 1) items)
      | false ↦ filtered k at n i items
    ]

one_address_list : (k at n : ℕ) (list : List ℕ) (es es' : List Entry) → AreAddresses k at n list es → AreAddresses k at n list es' → es ≡ es'
one_address_list k at n list es es' (items, walk, is) (items', walk', that) =
    is ∙ filtered k at n 0 items
    ∙ ap (λ seen. indexed (λ i s. address_entry k i (at + (s.0 + 4)) s.2) 0 (filter (λ s. length s.2 == n) seen)) (walk_unique list items items' None None walk walk').0
    ∙ sym (filtered k at n 0 items') ∙ sym that

-- the elements of a payload
pub one_below : (table : Table) (k at : ℕ) (o : Option Shape) (p : List ℕ) (form : Option Form) (es es' : List Entry) → ElementsBy table k at o p form es → ElementsBy table k at o p form es' → es ≡ es'
one_below table k at o p (Some (forms.List flagged)) es es' h h' = one_nested (elements_at table k) k at p es es' h h'
one_below table k at o p (Some (forms.Addresses n)) es es' h h' = one_address_list k at n p es es' h h'
one_below table k at o p form es es' h h' = h ∙ sym h'

-- ---- attributes

pub one_group : (table : Table) (x y : Item) (es es' : List Entry) → seen_of x ≡ seen_of y → IsGroup table x es → IsGroup table y es' → es ≡ es'
one_group table x y es es' same (content, has, (below, elements, is)) (other, its, (below', elements', that)) =
    let place : x.0 ≡ y.0 = ap (λ s. s.0) same in
    let f : kind_field_of x.1 ≡ kind_field_of y.1 = ap (λ s. s.1) same in
    let p = payload_of y.1 in
    let k = kind_of (kind_field_of y.1) in
    let first = elements_by_form table x.1 content has (x.0 + 4) below elements k p (ap kind_of f) (ap (λ s. s.2) same) (class_at table k) (form_at table k) refl refl in
    let second = elements_by_form table y.1 other its (y.0 + 4) below' elements' k p refl refl (class_at table k) (form_at table k) refl refl in
    let one = one_below table k (y.0 + 4) (class_at table k) p (form_at table k) below below' (subst (λ n. ElementsBy table k (n + 4) (class_at table k) p (form_at table k) below) place first) second in
    let heads : head_entry x content (length below) ≡ head_entry y other (length below') =
    entry_read table x.1 content has (length below) (λ i n. blank i 0 0 (x.0 + 4) n) k p (ap kind_of f) (ap (λ s. s.2) same)
    ∙ (λ i. fields_by (f i) (form_at table k) (value_at (class_at table k) p) (length (one i)) (blank k 0 0 (place i + 4) (length p)))
    ∙ sym (entry_read table y.1 other its (length below') (λ i n. blank i 0 0 (y.0 + 4) n) k p refl refl) in
    is ∙ ap₂ (λ e t. e ∷ t) heads one ∙ sym that

-- a list has one array of entries
pub one_flat : (table : Table) (s : List ℕ) (es es' : List Entry) → Flat table s es → Flat table s es' → es ≡ es'
one_flat table s es es' h k =
    let seen = (walk_unique s h.items k.items None None h.walk k.walk).0 in
    let groups : h.groups ≡ k.groups = zip_one seen_of (IsGroup table) (one_group table) h.items k.items h.groups k.groups seen h.each k.each in
    h.joined ∙ ap (λ t. flat_map (λ g. g) t) groups ∙ sym k.joined
