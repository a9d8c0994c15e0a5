-- The last of some items or entries with a property, the last attribute of a type, and its entry.
use Rattle.std.proofs.Common.{◌≡◌, ℕ, ◌==◌, Bool, true, false, cond, List, [], ◌∷◌, ◌++◌, Option, Some, None, refl, sym, ap, subst, ◌∙◌, ◌+◌, ◌-◌, ◌*◌, ◌≤◌, length, ap₂, arith, get_or}
use Rattle.std.specs.Option.{option_map}
use Rattle.std.specs.List.{AllZip, filter, flat_map, last_or}
use Rattle.std.proofs.lemmas.List.{append-nil}
use Rattle.std.proofs.lemmas.List.Elements.{filter-append}
use Rattle.link_base.specs.Frame.{kind_of}
use Rattle.link_base.specs.Buffer.{kind_field_of, payload_of, SplitsFirst}
use Rattle.link_messages.specs.Walk.{Item, Walk}
use Rattle.link_messages.specs.BeforeFault.{seen_of, last_item}
use Rattle.link_messages.proofs.Walking.{walk_unique, last-view, split_short, Reached, reached_none, reached_more}
use Rattle.link_entries.specs.declared.entry.Entry.{Entry}
use Rattle.link_entries.specs.Finding.{BothOrNone, item_of, IsEntryOf}
use Rattle.std.specs.Prelude.{IfSome}
use Rattle.std.proofs.lemmas.Bool.{cond_both}
use Rattle.link_base.specs.declared.views.attribute_set.AttributeSet as sets
use Rattle.link_base.specs.declared.views.view.Value.{Value}
use Rattle.link_base.specs.Table.{Table}
use Rattle.link_base.specs.Viewed.{buffer_in, kind_in, payload_in, set_in}
use Rattle.link_entries.specs.Entry.{placed}
use Rattle.link_entries.specs.Flat.{head_entry, IsGroup, Puts}
use Rattle.link_entries.proofs.Groups.{placed_past}

-- ---- one more

last_push : {A : Type 0} (o : Option A) (xs : List A) (x : A) → last_or o (xs ++ x ∷ []) ≡ Some x
last_push o [] x = refl
last_push o (y ∷ xs) x = last_push (Some y) xs x

-- at the end of the others, if it has the property
pub last_when : {A : Type 0} (b : Bool) (xs : List A) (x : A) → last_or None (xs ++ cond b (x ∷ []) []) ≡ cond b (Some x) (last_or None xs)
last_when true xs x = last_push None xs x
last_when false xs x = ap (last_or None) (append-nil xs)

pub last_more : {A : Type 0} (p : A → Bool) (xs : List A) (x : A) → last_or None (filter p (xs ++ x ∷ [])) ≡ cond (p x) (Some x) (last_or None (filter p xs))
last_more p xs x = ap (last_or None) (filter-append p xs (x ∷ [])) ∙ last_when (p x) (filter p xs) x

-- ---- the entry of the last item

-- whether an item has the type
abbrev pub has_kind : ℕ → Item → Bool
has_kind k x = kind_of (kind_field_of x.1) == k

module _ (R : Item → Entry → Type 0) where
  -- the last item with t has the last entry with p, if an item with t has one such entry, and no other item has any
  pub zip_last : {G : Type 0} (t : Item → Bool) (p : Entry → Bool) (Q : Item → G → Type 0) (of : G → List Entry) → ((x : Item) (g : G) → Q x g → (e : Entry) × R x e × (filter p (of g) ≡ cond (t x) (e ∷ []) []))
      → (items : List Item) (gs : List G) (o : Option Item) (found : Option Entry) → AllZip Q items gs → BothOrNone R o found → BothOrNone R (last_or o (filter t items)) (last_or found (filter p (flat_map of gs)))
  zip_last t p Q of each [] [] o found h is = is
  zip_last t p Q of each (x ∷ items) (g ∷ gs) o found h is =
      let (e, own, front) = each x g h.0 in
      let more = filter p (flat_map of gs) in
      subst (λ es. BothOrNone R (last_or o (filter t (x ∷ items))) (last_or found es)) (sym (filter-append p (of g) (flat_map of gs) ∙ ap (λ es. es ++ more) front))
      (elim (t x) as (λ b. BothOrNone R (last_or o (cond b (x ∷ filter t items) (filter t items))) (last_or found (cond b (e ∷ []) [] ++ more))) [
        | true ↦ zip_last t p Q of each items gs (Some x) (Some e) h.1 own
        | false ↦ zip_last t p Q of each items gs o found h.1 is
      ])
  zip_last t p Q of each items gs o found h is = absurd h

  module _ (one : (x y : Item) (b c : Entry) → seen_of x ≡ seen_of y → R x b → R y c → b ≡ c) where
    one_of : (o o' : Option Item) (e e' : Option Entry) → option_map seen_of o ≡ option_map seen_of o' → BothOrNone R o e → BothOrNone R o' e' → e ≡ e'
    one_of None None None None same h k = refl
    one_of (Some x) (Some y) (Some e) (Some e') same h k = let seen : seen_of x ≡ seen_of y = cc in ap (λ d. Some d) (one x y e e' seen h k)
    one_of o o' e e' same h k = absurd (first_of (cc, assumption))

    -- the last item of a type has one entry only, whatever the walk
    pub one_last : (k : ℕ) (list : List ℕ) (items items' : List Item) (e e' : Option Entry) → Walk list items None → Walk list items' None → BothOrNone R (last_item k items) e → BothOrNone R (last_item k items') e' → e ≡ e'
    one_last k list items items' e e' walk walk' =
        let seen = (walk_unique list items items' None None walk walk').0 in
        let is_kind : ℕ × ℕ × List ℕ → Bool = λ s. kind_of s.1 == k in
        one_of (last_item k items) (last_item k items') e e' (last-view seen_of is_kind None items ∙ ap (λ s. last_or None (filter is_kind s)) seen ∙ sym (last-view seen_of is_kind None items'))

module _ {S : Type 0} {g : sets.Ghosts S} (k : ℕ) (list : List ℕ) (set : S) where
  -- an attribute of this set that is within the list
  abbrev pub IsWithin : ℕ × Value S g → Type 0
  IsWithin x = (set_in x.1 ≡ set) × (x.0 + (4 + length (payload_in x.1)) ≤ length list)

  -- the attributes before `rest`, and the last of the type among them
  pub record LastTo (rest : List ℕ) (found : Option (ℕ × Value S g)) : Type 0 where
    pub reached : Reached (last_item k) list (option_map item_of found) rest
    pub is : IfSome found IsWithin

  pub last_none : LastTo list None
  last_none = record { reached = reached_none (last_item k) list None refl; is = tt }

  found_if : (b : Bool) (x : ℕ × Value S g) (found : Option (ℕ × Value S g)) → option_map item_of (cond b (Some x) found) ≡ cond b (Some (item_of x)) (option_map item_of found)
  found_if true x found = refl
  found_if false x found = refl

  -- one attribute more
  pub last_next : (rest after : List ℕ) (found found' : Option (ℕ × Value S g)) (at : ℕ) (x : Value S g) → LastTo rest found → SplitsFirst rest (buffer_in x) after → at ≡ length list - length rest
      → set_in x ≡ set → found' ≡ cond (kind_in x == k) (Some (at, x)) found → LastTo after found'
  last_next rest after found found' at x h split place same e =
      let b = kind_in x == k in
      let within : at + (4 + length (payload_in x)) ≤ length list = omega (arith, place, (split_short rest (buffer_in x) after split).0, h.reached.room) in
      record {
        reached = reached_more (last_item k) list rest after (option_map item_of found) (option_map item_of found') (buffer_in x) h.reached split (λ items is.
            ap (option_map item_of) e ∙ found_if b (at, x) found ∙ ap₂ (λ n o. cond b (Some (n, buffer_in x)) o) place is ∙ sym (last_more (has_kind k) items (length list - length rest, buffer_in x)));
        is = subst (λ o. IfSome o IsWithin) (sym e) (cond_both b (Some (at, x)) found (λ o. IfSome o IsWithin) (λ _. (same, within)) (λ _. h.is));
      }

  pub last_all : (rest : List ℕ) (found : Option (ℕ × Value S g)) → LastTo rest found → rest ≡ [] → (items : List Item) × Walk list items None × (option_map item_of found ≡ last_item k items)
  last_all rest found h end = (h.reached.items, record { rest = rest; walks = h.reached.walks; end = end }, h.reached.is)

  -- what was found is of the set, and within the list
  pub found_set : (found : Option (ℕ × Value S g)) → IfSome found IsWithin → IfSome found (λ x. set_in x.1 ≡ set)
  found_set None h = tt
  found_set (Some x) h = h.0

  pub found_within : (found : Option (ℕ × Value S g)) → IfSome found IsWithin → IfSome found (λ x. x.0 + (4 + length (payload_in x.1)) ≤ length list)
  found_within None h = tt
  found_within (Some x) h = h.1

-- the entry of an attribute is in the only place
pub only_place : (table : Table) (x : Item) (old new : List Entry) (default : Entry) (next : ℕ) → length old ≡ 1
    → (group : List Entry) × IsGroup table x group × Puts old new 0 group next × (2 * length group ≤ 4 + length (payload_of x.1)) → IsEntryOf table x (get_or new 0 default)
only_place table x [] new default next one h = absurd (omega (arith, one))
only_place table x (o ∷ []) new default next one (group, (content, has, (below, elements, joined)), puts, fewer) =
    let head : Entry = head_entry x content (length below) in
    let stored : new ≡ head ∷ [] = puts.0 ∙ ap (placed (o ∷ []) 0) joined ∙ placed_past (head ∷ []) 1 below (omega arith) in
    let same : get_or new 0 default ≡ head = ap (λ t. get_or t 0 default) stored in
    (below, (content, has, (below, elements, ap (λ d. d ∷ below) same)))
only_place table x (o ∷ p ∷ old) new default next one h = absurd (omega (arith, one))
