-- The attributes of a message: marked, and one of each list.
use Rattle.std.proofs.Common.{◌≡◌, ◌⊎◌, ℕ, suc, ◌+◌, ◌≤◌, ◌==◌, ◌&&◌, ◌||◌, Bool, true, false, cond, List, [], ◌∷◌, ◌++◌, length, Ok, Err, inl, inr, refl, sym, ap, ap₂, subst, ◌∙◌, arith}
use Rattle.std.specs.List.{AllZip, AllByRecursion, flat_map}
use Rattle.std.proofs.lemmas.Bool.{le-ltb, eq-eqb, eqb-true}
use Rattle.std.proofs.lemmas.List.Folds.{list_any-append}
use Rattle.std.proofs.lemmas.List.Concat.{flat_map-cons}
use Rattle.link_base.specs.Table.{Table}
use Rattle.link_base.specs.Buffer.{kind_field_of}
use Rattle.link_base.specs.Frame.{kind_of}
use Rattle.link_base.proofs.Written.{all_append}
use Rattle.link_messages.specs.Walk.{Item}
use Rattle.netlink_packet_route.specs.declared.family.Family.TheVariants.{Link}
use Rattle.link_entries.specs.declared.entry.Entry.{Entry}
use Rattle.link_entries.specs.declared.misfit.Misfit.TheVariants.{BadDepth}
use Rattle.link_entries.specs.Entry.{blank}
use Rattle.link_entries.specs.Flat.{IsGroup, Flat}
use Rattle.link_entries.specs.Encoded.{Encoding, before}
use Rattle.link_entries.proofs.EntryFields.{keeps_filled, elements_below, AreBelow}
use Rattle.link_entries.proofs.WrittenLists.{if_held, both_true}
use Rattle.link_requests.specs.declared.head.Head.{Head}
use Rattle.link_requests.specs.declared.level.Scope.TheVariants.{Attributes}
use Rattle.link_requests.specs.Opening.{Kinds, no_kinds}
use Rattle.link_requests.specs.Lists.{is_single, is_among, is_repeated, unrepeated}
use Rattle.link_requests.specs.Value.{attribute_fields, of_message, names_form, is_placed, value_with, value_of}
use Rattle.link_requests.specs.Values.{values_of, inner_of}
use Rattle.link_requests.specs.Request.{attributes_of}
use Rattle.link_requests.specs.Law.{IsOwn, IsUnmarked, of_type}
use Rattle.link_requests.proofs.Attributes.{before_ok, attributes_ok}

-- ---- marks

placed_own : (n : ℕ) (names : Bool) → ((n == of_message) || names) ≡ true → (n ≡ of_message) ⊎ (names ≡ true)
placed_own n names h = by (n == of_message) refl h
  where
    by : (b : Bool) → (n == of_message) ≡ b → (b || names) ≡ true → (n ≡ of_message) ⊎ (names ≡ true)
    by true same is = inl (eqb-true n of_message same)
    by false other is = inr is

module _ (octets : List ℕ) (x : Kinds) where
  abbrev encoded : ℕ → List Entry → Encoding
  encoded i es = values_of octets (Attributes Link) 0 x i es

  abbrev here : ℕ → Entry → List Entry → Encoding
  here i e es = value_of octets (Attributes Link) 0 x i e es (inner_of octets 0 x es)

  one_own : (i : ℕ) (e : Entry) (es : List Entry) (a : List ℕ) → cond (e.depth == 0) (here i e es) (Ok []) ≡ Ok a → IsOwn x.address_family e
  one_own i e es a h flat =
      let own = attribute_fields Link x.address_family e in
      let is : here i e es ≡ Ok a = sym (ap (λ b. cond b (here i e es) (Ok [])) (eq-eqb e.depth 0 flat)) ∙ h in
      placed_own e.inner (names_form own) (if_held (is_placed (Attributes Link) own e) (0, BadDepth) (value_with octets (Attributes Link) 0 x i own e es (inner_of octets 0 x es)) a is).0

  all_own : (i : ℕ) (es : List Entry) (s : List ℕ) → encoded i es ≡ Ok s → AllByRecursion (IsOwn x.address_family) es
  all_own i [] s h = tt
  all_own i (e ∷ es) s h =
      let first = cond (e.depth == 0) (here i e es) (Ok []) in
      let step : before first (encoded (i + 1) es) ≡ Ok s = sym (ap (λ b. cond b (Ok []) (before first (encoded (i + 1) es))) (le-ltb e.depth 0 (omega arith))) ∙ h in
      let (a, b, one, others, join) = before_ok first (encoded (i + 1) es) s step in
      (one_own i e es a one, all_own (i + 1) es b others)

-- ---- one of each list

abbrev is_of : ℕ → Entry → Bool
is_of k e = (e.depth == 0) && (e.kind == k)

or-false : (b : Bool) → (b || false) ≡ b
or-false true = refl
or-false false = refl

-- one value more that was seen
among-more : (seen : List Entry) (e : Entry) (k : ℕ) → is_among (seen ++ e ∷ []) k ≡ (is_among seen k || is_of k e)
among-more seen e k = list_any-append (is_of k) seen (e ∷ []) ∙ ap (λ b. is_among seen k || b) (or-false (is_of k e))

-- a value that is not repeated, and those after it
goes_on : (seen : List Entry) (e : Entry) (es : List Entry) (b : Bool) → is_repeated seen e ≡ b → cond b 0 (suc (unrepeated (seen ++ e ∷ []) es)) ≡ suc (length es)
    → (is_repeated seen e ≡ false) × (unrepeated (seen ++ e ∷ []) es ≡ length es)
goes_on seen e es true is h = absurd (omega (arith, h))
goes_on seen e es false is h = (is, omega (arith, h))

-- the first of a type is not among those before it
first_time : (k : ℕ) (seen : List Entry) (e : Entry) → is_single k ≡ true → is_of k e ≡ true → is_repeated seen e ≡ false → is_among seen k ≡ false
first_time k seen e single is new =
    let (flat, same) = both_true (e.depth == 0) (e.kind == k) is in
    let here = ap₂ (λ a j. a && (is_single j && is_among seen j)) flat (eqb-true e.kind k same) in
    let known = ap (λ b. b && is_among seen k) single in
    sym (here ∙ known) ∙ new

-- how often a type can be among further values
abbrev most : Bool → ℕ
most true = 0
most false = 1

-- how often it is among values of which none is repeated
once : (k : ℕ) → is_single k ≡ true → (seen es : List Entry) → unrepeated seen es ≡ length es → length (of_type k es) ≤ most (is_among seen k)
once k single seen [] h = omega arith
once k single seen (e ∷ es) h =
    let (new, rest) = goes_on seen e es (is_repeated seen e) refl h in
    let more : length (of_type k es) ≤ most (is_among seen k || is_of k e) = subst (λ b. length (of_type k es) ≤ most b) (among-more seen e k) (once k single (seen ++ e ∷ []) es rest) in
    by (is_of k e) refl new more
  where
    by : (b : Bool) → is_of k e ≡ b → is_repeated seen e ≡ false → length (of_type k es) ≤ most (is_among seen k || is_of k e) → length (of_type k (e ∷ es)) ≤ most (is_among seen k)
    by true is new more =
        let fresh = first_time k seen e single is new in
        let none : length (of_type k es) ≤ 0 = subst (λ n. length (of_type k es) ≤ n) (ap₂ (λ a b. most (a || b)) fresh is) more in
        let size : length (of_type k (e ∷ es)) ≡ suc (length (of_type k es)) = ap (λ b. length (cond b (e ∷ of_type k es) (of_type k es))) is in
        subst (λ n. length (of_type k (e ∷ es)) ≤ n) (sym (ap most fresh)) (omega (arith, size, none))
    by false is new more =
        let size : length (of_type k (e ∷ es)) ≡ length (of_type k es) = ap (λ b. length (cond b (e ∷ of_type k es) (of_type k es))) is in
        let same : most (is_among seen k || is_of k e) ≡ most (is_among seen k) = ap most (ap (λ b. is_among seen k || b) is ∙ or-false (is_among seen k)) in
        omega (arith, size, same, more)

-- ---- a message

pub message_marked : (head : Head) (octets s : List ℕ) (es : List Entry) → attributes_of head octets es ≡ Ok s → AllByRecursion (IsOwn head.address_family) es
message_marked head octets s es h = all_own octets (no_kinds head.address_family) 0 es s (attributes_ok head octets s es h).1

pub message_once : (head : Head) (octets s : List ℕ) (es : List Entry) (k : ℕ) → attributes_of head octets es ≡ Ok s → is_single k ≡ true → length (of_type k es) ≤ 1
message_once head octets s es k h single = once k single [] es (attributes_ok head octets s es h).0

-- ---- the entries of a list

below_unmarked : (es : List Entry) → AreBelow es → AllByRecursion IsUnmarked es
below_unmarked [] h = tt
below_unmarked (e ∷ es) h = ((λ flat. absurd (omega (arith, flat, h.0))), below_unmarked es h.1)

group_unmarked : (table : Table) (x : Item) (g : List Entry) → IsGroup table x g → AllByRecursion IsUnmarked g
group_unmarked table x g (content, has, (below, elements, parts)) =
    let f = kind_field_of x.1 in
    let keeps = keeps_filled f content (length below) (blank (kind_of f) 0 0 (x.0 + 4) _) in
    subst (AllByRecursion IsUnmarked) (sym parts) ((λ flat. keeps.inner), below_unmarked below (elements_below table (kind_of f) (x.0 + 4) content below elements))

groups_unmarked : (table : Table) (items : List Item) (groups : List (List Entry)) → AllZip (IsGroup table) items groups → AllByRecursion IsUnmarked (flat_map (λ g. g) groups)
groups_unmarked table [] [] h = tt
groups_unmarked table (x ∷ items) (g ∷ groups) h =
    subst (AllByRecursion IsUnmarked) (sym (flat_map-cons (λ l. l) g groups)) (all_append IsUnmarked g (flat_map (λ l. l) groups) (group_unmarked table x g h.0) (groups_unmarked table items groups h.1))
groups_unmarked table items groups h = absurd h

pub all_unmarked : (table : Table) (list : List ℕ) (es : List Entry) → Flat table list es → AllByRecursion IsUnmarked es
all_unmarked table list es flat = subst (AllByRecursion IsUnmarked) (sym flat.joined) (groups_unmarked table flat.items flat.groups flat.each)
