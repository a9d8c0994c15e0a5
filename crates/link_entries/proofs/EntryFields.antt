-- The fields of an entry that its content leaves as they are, and which entries are those of attributes.
use Rattle.std.proofs.Common.{◌≡◌, ℕ, ◌+◌, ◌==◌, false, cond, ◌&&◌, List, [], ◌∷◌, length, Option, None, refl, sym, ap, ap₂, subst, ◌∙◌}
use Rattle.std.specs.List.{AllZip, AllByRecursion, filter}
use Rattle.std.proofs.lemmas.Bool.{and_right, cond_both}
use Rattle.std.proofs.Math.Bool.{and-true}
use Rattle.link_base.specs.declared.rows.form.Layout.{Layout}
use Rattle.link_base.specs.declared.rows.form.Layout.TheVariants as layouts
use Rattle.link_base.specs.declared.views.content.Content.{Content}
use Rattle.link_base.specs.declared.views.content.Content.TheVariants as contents
use Rattle.link_base.specs.Forms.{size_in}
use Rattle.link_base.specs.Frame.{kind_of}
use Rattle.link_base.specs.Buffer.{kind_field_of}
use Rattle.link_base.specs.Table.{Table}
use Rattle.link_base.specs.Layout.{numbers_of}
use Rattle.link_base.specs.Borrowed.{elements_at}
use Rattle.link_messages.specs.Walk.{Item}
use Rattle.link_messages.specs.BeforeFault.{seen_of}
use Rattle.link_entries.specs.declared.entry.Entry.{Entry}
use Rattle.link_entries.specs.Entry.{blank}
use Rattle.link_entries.specs.Content.{with_struct, filled}
use Rattle.link_entries.specs.Flat.{indexed, number_entry, is_address, IsElement, Elements, head_entry, IsGroup, Flat}
use Rattle.link_entries.specs.Finding.{IsEntryOf, IsLastOf, is_attribute, last_entry}
use Rattle.link_entries.proofs.Groups.{joined}
use Rattle.link_entries.proofs.LastOf.{has_kind, zip_last, one_last}
use Rattle.link_entries.proofs.Unique.{one_group}

-- an entry with the same types and depth
pub record Keeps (e new : Entry) : Type 0 where
  pub kind : new.kind ≡ e.kind
  pub inner : new.inner ≡ e.inner
  pub depth : new.depth ≡ e.depth

keeps_struct : (layout : Layout) (p : List ℕ) (e : Entry) → Keeps e (with_struct layout p e)
keeps_struct (layouts.Other lengths) p e = record { kind = refl; inner = refl; depth = refl }
keeps_struct layout p e = cond_both _ _ _ (Keeps e) (λ _. record { kind = refl; inner = refl; depth = refl }) (λ _. record { kind = refl; inner = refl; depth = refl })

pub keeps_filled : (f : ℕ) (x : Content) (n : ℕ) (e : Entry) → Keeps e (filled f x n e)
keeps_filled f (contents.Struct layout p) n e = keeps_struct layout p.now e
keeps_filled f x n e = record { kind = refl; inner = refl; depth = refl }

-- ---- entries of elements

-- entries of elements
abbrev pub AreBelow : List Entry → Type 0
AreBelow es = AllByRecursion (λ e. e.depth ≡ 1) es

indexed_below : {A : Type 0} (f : ℕ → A → Entry) → ((i : ℕ) (x : A) → (f i x).depth ≡ 1) → (i : ℕ) (xs : List A) → AreBelow (indexed f i xs)
indexed_below f h i [] = tt
indexed_below f h i (x ∷ xs) = (h i x, indexed_below f h (i + 1) xs)

nested_below : (table : Table) (k at : ℕ) (items : List Item) (es : List Entry) → AllZip (λ x e. IsElement table k (at + (x.0 + 4)) x.1 e) items es → AreBelow es
nested_below table k at [] [] h = tt
nested_below table k at (x ∷ items) (e ∷ es) h =
    let (content, has, is) = h.0 in
    (ap (λ d. d.depth) is ∙ (keeps_filled (kind_field_of x.1) content 0 _).depth, nested_below table k at items es h.1)
nested_below table k at items es h = absurd h

pub elements_below : (table : Table) (k at : ℕ) (x : Content) (es : List Entry) → Elements table k at x es → AreBelow es
elements_below table k at (contents.List l flagged) es (items, walk, each) = nested_below (elements_at table k) k at items es each
elements_below table k at (contents.Addresses l n) es (items, walk, is) =
    subst AreBelow (sym is) (indexed_below _ (λ i x. refl) 0 (filter (is_address n) items))
elements_below table k at (contents.Numbers a p) es is = subst AreBelow (sym is) (indexed_below (number_entry k at a) (λ i x. refl) 0 (numbers_of (size_in a) p.now))
elements_below table k at x es is = subst AreBelow (sym is) tt

-- ---- the entries of attributes of a type

passed_below : (k : ℕ) (es : List Entry) → AreBelow es → filter (is_attribute k) es ≡ []
passed_below k [] h = refl
passed_below k (e ∷ es) h =
    let no : is_attribute k e ≡ false = and_right (e.kind == k) (e.depth == 0) (ap (λ n. n == 0) h.0) in
    ap (λ b. cond b (e ∷ filter (is_attribute k) es) (filter (is_attribute k) es)) no ∙ passed_below k es h.1

-- those of one attribute
in_group : (k : ℕ) (x : Item) (content : Content) (n : ℕ) (below : List Entry) → AreBelow below
    → filter (is_attribute k) (head_entry x content n ∷ below) ≡ cond (has_kind k x) (head_entry x content n ∷ []) []
in_group k x content n below h =
    let head = head_entry x content n in
    let keeps = keeps_filled (kind_field_of x.1) content n (blank (kind_of (kind_field_of x.1)) 0 0 (x.0 + 4) _) in
    let is : is_attribute k head ≡ has_kind k x = ap (λ d. (head.kind == k) && (d == 0)) keeps.depth ∙ and-true (head.kind == k) ∙ ap (λ j. j == k) keeps.kind in
    let rest = passed_below k below h in
    ap₂ (λ b es. cond b (head ∷ es) es) is rest

-- the first of them is that of the attribute
group_head : (table : Table) (k : ℕ) (x : Item) (g : List Entry) → IsGroup table x g → (e : Entry) × IsEntryOf table x e × (filter (is_attribute k) g ≡ cond (has_kind k x) (e ∷ []) [])
group_head table k x g h =
    let (content, has, (below, elements, parts)) = h in
    let deep = elements_below table (kind_of (kind_field_of x.1)) (x.0 + 4) content below elements in
    (head_entry x content (length below), (below, subst (IsGroup table x) parts h), ap (filter (is_attribute k)) parts ∙ in_group k x content (length below) below deep)

-- ---- one entry only

one_entry : (table : Table) (x y : Item) (e e' : Entry) → seen_of x ≡ seen_of y → IsEntryOf table x e → IsEntryOf table y e' → e ≡ e'
one_entry table x y e e' seen (es, h) (es', k) = let groups : e ∷ es ≡ e' ∷ es' = one_group table x y (e ∷ es) (e' ∷ es') seen h k in cc

-- what is found in a list is the last entry of an attribute of the type among its entries
pub found_in_flat : (table : Table) (k : ℕ) (list : List ℕ) (found : Option Entry) (es : List Entry) → IsLastOf table k list found → Flat table list es → found ≡ last_entry k es
found_in_flat table k list found es (items, walk, is) flat =
    one_last (IsEntryOf table) (one_entry table) k list items flat.items found (last_entry k (joined flat.groups)) walk flat.walk is
    (zip_last (IsEntryOf table) (has_kind k) (is_attribute k) (IsGroup table) (λ g. g) (group_head table k) flat.items flat.groups None None flat.each tt) ∙ ap (last_entry k) (sym flat.joined)
