-- The attributes of a list up to its first malformed header: one more, and that there is one walk only.
use Rattle.std.proofs.Common.{◌≡◌, ℕ, ◌+◌, ◌-◌, ◌<◌, ◌≤◌, ◌==◌, Bool, true, false, cond, List, [], ◌∷◌, ◌++◌, length, map, drop, min, Option, Some, None, refl, sym, subst, ap, ap₂, ◌∙◌, arith}
use Rattle.std.specs.Prelude.{nat_eq}
use Rattle.std.specs.Option.{option_map}
use Rattle.std.specs.List.{filter, last_or}
use Rattle.std.proofs.lemmas.Bool.{eqb-true, eqb-false}
use Rattle.std.proofs.lemmas.List.{append-nil, length-append, length-drop, nil_from_length}
use Rattle.std.proofs.lemmas.List.Elements.{filter-append}
use Rattle.link_base.specs.declared.wire.buffer.NlaBuffer.{NlaBuffer}
use Rattle.link_base.specs.declared.wire.fault.Cause.{Cause}
use Rattle.link_base.specs.Frame.{kind_of, pad, frame_fault}
use Rattle.link_base.specs.Buffer.{SplitsFirst, kind_field_of, payload_of, frame_of}
use Rattle.link_base.proofs.Cuts.{SameFront-frames}
use Rattle.link_base.proofs.FrameBytes.{frame_fault-frame}
use Rattle.link_messages.specs.Walk.{Item, Walks, IsEnd, Walk}
use Rattle.link_messages.specs.Finding.{Stretch}
use Rattle.link_messages.specs.BeforeFault.{OfWalk, Seen, seen_of, last_item, payload_at, latest}

-- ---- one attribute more

pub walks_more : (n : ℕ) (s : List ℕ) (items : List Item) (t : List ℕ) (b : NlaBuffer) (u : List ℕ) → Walks n s items t → SplitsFirst t b u → Walks n s (items ++ (n - length t, b) ∷ []) u
walks_more n s [] t b u h split = (ap (λ z. n - length z) (sym h), (u, subst (λ z. SplitsFirst z b u) (sym h) split, refl))
walks_more n s (x ∷ items) t b u h split = let w = h.1 in (h.0, (w.0, w.1, walks_more n w.0 items t b u w.2 split))

-- ---- one walk only

-- two attributes at the start of the same bytes are alike, and the same bytes follow them
pub same_split : (s : List ℕ) (b c : NlaBuffer) (u v : List ℕ) → SplitsFirst s b u → SplitsFirst s c v → (kind_field_of b ≡ kind_field_of c) × (payload_of b ≡ payload_of c) × (u ≡ v)
same_split s b c u v h k =
    let same = SameFront-frames (frame_of b) (frame_of c) h.0.rest k.0.rest h.0.is k.0.is (sym h.0.string ∙ k.0.string) in
    (same.kind_field, same.payload, h.1 ∙ ap (λ p. drop (min (pad (4 + length p)) (length s)) s) same.payload ∙ sym k.1)

-- no attribute is at the end of a walk
pub end_splits : (n : ℕ) (rest : List ℕ) (fault : Option (ℕ × Cause)) (b : NlaBuffer) (u : List ℕ) → IsEnd n rest fault → SplitsFirst rest b u → ⊥
end_splits n rest None b u end h = let e : [] ≡ _ = sym end ∙ h.0.string in cc
end_splits n rest (Some fault) b u end h =
    let e : None ≡ Some fault.1 = sym (frame_fault-frame (frame_of b) h.0.rest h.0.is) ∙ ap frame_fault (sym h.0.string) ∙ end.2 in cc

same_walks : (n : ℕ) (s : List ℕ) (xs ys : List Item) (t v : List ℕ) (e f : Option (ℕ × Cause)) → Walks n s xs t → Walks n s ys v → IsEnd n t e → IsEnd n v f → (map seen_of xs ≡ map seen_of ys) × (t ≡ v)
same_walks n s [] [] t v e f h k last other = (refl, sym h ∙ k)
same_walks n s [] (y ∷ ys) t v e f h k last other = absurd (end_splits n t e y.1 k.1.0 last (subst (λ z. SplitsFirst z y.1 k.1.0) h k.1.1))
same_walks n s (x ∷ xs) [] t v e f h k last other = absurd (end_splits n v f x.1 h.1.0 other (subst (λ z. SplitsFirst z x.1 h.1.0) k h.1.1))
same_walks n s (x ∷ xs) (y ∷ ys) t v e f h k last other =
    let same = same_split s x.1 y.1 h.1.0 k.1.0 h.1.1 k.1.1 in
    let more = same_walks n h.1.0 xs ys t v e f h.1.2 (subst (λ z. Walks n z ys v) (sym same.2) k.1.2) last other in
    (ap₂ (λ a b. a ∷ b) (λ i. ((h.0 ∙ sym k.0) i, same.0 i, same.1 i)) more.0, more.1)

same_end : (n : ℕ) (rest : List ℕ) (e f : Option (ℕ × Cause)) → IsEnd n rest e → IsEnd n rest f → e ≡ f
same_end n rest None None h k = refl
same_end n rest None (Some f) h k = absurd (k.0 h)
same_end n rest (Some e) None h k = absurd (h.0 k)
same_end n rest (Some e) (Some f) h k =
    let causes : Some e.1 ≡ Some f.1 = sym h.2 ∙ k.2 in
    let cause : e.1 ≡ f.1 = cc in
    λ i. Some ((h.1 ∙ sym k.1) i, cause i)

-- two walks over a list have the same offsets, types and payloads, and end in the same way
pub walk_unique : (list : List ℕ) (xs ys : List Item) (e f : Option (ℕ × Cause)) → Walk list xs e → Walk list ys f → (map seen_of xs ≡ map seen_of ys) × (e ≡ f)
walk_unique list xs ys e f h k =
    let n = length list in
    let same = same_walks n list xs ys h.rest k.rest e f h.walks k.walks h.end k.end in
    (same.0, same_end n k.rest e f (subst (λ z. IsEnd n z e) same.1 h.end) k.end)

-- ---- the last attribute of a type

last_or-push : {A : Type 0} (o : Option A) (xs : List A) (x : A) → last_or o (xs ++ x ∷ []) ≡ Some x
last_or-push o [] x = refl
last_or-push o (y ∷ xs) x = last_or-push (Some y) xs x

last_view-push : {A B : Type 0} (f : A → B) (b : Bool) (xs : List A) (x : A) → option_map f (last_or None (xs ++ cond b (x ∷ []) [])) ≡ cond b (Some (f x)) (option_map f (last_or None xs))
last_view-push f true xs x = ap (option_map f) (last_or-push None xs x)
last_view-push f false xs x = ap (λ l. option_map f (last_or None l)) (append-nil xs)

pub map_twice : {A B C : Type 0} (f : A → B) (g : B → C) (o : Option A) → option_map (λ x. g (f x)) o ≡ option_map g (option_map f o)
map_twice f g None = refl
map_twice f g (Some x) = refl

-- the last element of a list with a property that is a property of the element's view
pub last-view : {A B : Type 0} (f : A → B) (p : B → Bool) (o : Option A) (xs : List A) → option_map f (last_or o (filter (λ x. p (f x)) xs)) ≡ last_or (option_map f o) (filter p (map f xs))
last-view f p o [] = refl
last-view f p o (x ∷ xs) =
    elim (p (f x)) as (λ b. option_map f (last_or o (cond b (x ∷ filter (λ x. p (f x)) xs) (filter (λ x. p (f x)) xs))) ≡ last_or (option_map f o) (cond b (f x ∷ filter p (map f xs)) (filter p (map f xs)))) [
      | true ↦ last-view f p (Some x) xs
      | false ↦ last-view f p o xs
    ]

-- it depends only on what is seen of attributes
pub latest_same : (base kind : ℕ) (xs ys : List Item) → map seen_of xs ≡ map seen_of ys → latest base kind xs ≡ latest base kind ys
latest_same base kind xs ys e =
    let placed : Seen → Stretch = λ x. (base + x.0 + 4, x.2) in
    let found : List Seen → Option Stretch = λ xs. option_map placed (last_or None (filter (λ x. nat_eq (kind_of x.1) kind) xs)) in
    let seen : (items : List Item) → latest base kind items ≡ found (map seen_of items) =
    λ items. map_twice seen_of placed (last_item kind items) ∙ ap (option_map placed) (last-view seen_of (λ x. nat_eq (kind_of x.1) kind) None items) in
    seen xs ∙ ap found e ∙ sym (seen ys)

-- one attribute more
pub latest_more : (base kind i : ℕ) (b : NlaBuffer) (found more : Option Stretch) (items : List Item) → more ≡ cond (nat_eq (kind_of (kind_field_of b)) kind) (Some (base + i + 4, payload_of b)) found
    → found ≡ latest base kind items → more ≡ latest base kind (items ++ (i, b) ∷ [])
latest_more base kind i b found more items e h =
    let is_of : Item → Bool = λ y. nat_eq (kind_of (kind_field_of y.1)) kind in
    let last = last_view-push (payload_at base) (is_of (i, b)) (filter is_of items) (i, b) in
    e ∙ ap (cond (is_of (i, b)) (Some (payload_at base (i, b)))) h ∙ sym last ∙ ap (λ l. option_map (payload_at base) (last_or None l)) (sym (filter-append is_of items ((i, b) ∷ [])))

-- ---- a loop over the attributes

-- an attribute and its header are in the bytes that they are taken from, and what follows is shorter
pub split_short : (s : List ℕ) (b : NlaBuffer) (u : List ℕ) → SplitsFirst s b u → (4 + length (payload_of b) ≤ length s) × (length u < length s)
split_short s b u h =
    let step = min (pad (4 + length (payload_of b))) (length s) in
    let whole : 4 + length (payload_of b) ≤ length s = omega (arith, ap length h.0.string, length-append (payload_of b ++ []) h.0.rest, length-append (payload_of b) []) in
    (whole, omega (arith, ap length h.1, length-drop step s))

-- the attributes before the bytes `rest` of a list, and a value that depends on them
pub record Reached {A : Type 0} (of : List Item → A) (list : List ℕ) (value : A) (rest : List ℕ) : Type 0 where
  pub items : List Item
  pub walks : Walks (length list) list items rest
  pub room : length items + length rest ≤ length list
  pub is : value ≡ of items

pub reached_none : {A : Type 0} (of : List Item → A) (list : List ℕ) (value : A) → value ≡ of [] → Reached of list value list
reached_none of list value e = record { items = []; walks = refl; room = omega arith; is = e }

-- one attribute more
pub reached_more : {A : Type 0} (of : List Item → A) (list rest next : List ℕ) (value more : A) (b : NlaBuffer) → Reached of list value rest → SplitsFirst rest b next
    → ((items : List Item) → value ≡ of items → more ≡ of (items ++ (length list - length rest, b) ∷ [])) → Reached of list more next
reached_more of list rest next value more b r split step =
    let x : Item = (length list - length rest, b) in
    let short = split_short rest b next split in
    record {
      items = r.items ++ x ∷ [];
      walks = walks_more (length list) list r.items rest b next r.walks split;
      room = omega (arith, short.1, r.room, length-append r.items (x ∷ []));
      is = step r.items r.is;
    }

-- the end of the list, and a malformed header
pub at_end : (n : ℕ) (rest : List ℕ) → (length rest == 0) ≡ true → IsEnd n rest None
at_end n rest e = nil_from_length rest (eqb-true (length rest) 0 e)

pub at_fault : (n : ℕ) (rest : List ℕ) (cause : Cause) → (length rest == 0) ≡ false → frame_fault rest ≡ Some cause → IsEnd n rest (Some (n - length rest, cause))
at_fault n rest cause e fault = (λ none. eqb-false (length rest) 0 e (ap length none), refl, fault)

-- a list up to bytes that are no attribute
ended : (n : ℕ) (rest : List ℕ) (c : Cause) → frame_fault rest ≡ Some c → (fault : Option (ℕ × Cause)) × IsEnd n rest fault
ended n [] c e = (None, refl)
ended n (b ∷ rest) c e = (Some (n - length (b ∷ rest), c), ((λ h. cc), refl, e))

pub walk_to : (list rest : List ℕ) (items : List Item) (c : Cause) → Walks (length list) list items rest → frame_fault rest ≡ Some c → (fault : Option (ℕ × Cause)) × Walk list items fault
walk_to list rest items c w e = let end = ended (length list) rest c e in (end.0, record { rest = rest; walks = w; end = end.1 })

-- what holds of one walk holds of every walk, if it depends only on what is seen of attributes
pub reached_all : {A : Type 0} (of : List Item → A) (list rest : List ℕ) (value : A) (c : Cause) → ((xs ys : List Item) → map seen_of xs ≡ map seen_of ys → of xs ≡ of ys) → Reached of list value rest
    → frame_fault rest ≡ Some c → ((items : List Item) × (fault : Option (ℕ × Cause)) × Walk list items fault) × OfWalk list (λ items fault. value ≡ of items)
reached_all of list rest value c seen r bad =
    let (fault, walk) = walk_to list rest r.items c r.walks bad in
    ((r.items, fault, walk), λ items stop other. r.is ∙ seen r.items items (walk_unique list r.items items fault stop walk other).0)
