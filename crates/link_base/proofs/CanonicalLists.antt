-- Checking canonical lists, and lists of addresses, one frame at a time.
use Rattle.std.proofs.Common.{◌≡◌, ◌≢◌, ◌↔◌, ℕ, suc, ◌+◌, ◌-◌, ◌<◌, ◌≤◌, List, [], ◌∷◌, ◌++◌, length, take, drop, get_or, replicate, refl, sym, ap, ap₂, subst, ◌∙◌, arith, None, append_assoc, length-append}
use Rattle.std.specs.Prelude.{Bool, true, false, not, Option, Some, is_some, IsTrue, MatchOption}
use Rattle.std.specs.List.{AllByRecursion}
use Rattle.std.proofs.lemmas.List.{append_cancel_left, length-replicate, length-take, take-append-drop, get_or-replicate}
use Rattle.std.proofs.Math.Seq.{drop-append_seam, take-append_seam}
use Rattle.link_base.specs.Frame.{Frame, BeginsWith, bare, IsComplete, frame_bytes, bytes_of_frames, gap}
use Rattle.link_base.specs.Wire.{whole, SplitsWhole, IsCanonicalFrame, CanonicalBy, FirstOtherBy}
use Rattle.link_base.specs.Table.{addresses_from}
use Rattle.link_base.proofs.FrameBytes.{length-frame_bytes}
use Rattle.link_base.proofs.Cuts.{SameFront, SameFront-frames, IsFrame-complete}
use Rattle.link_base.proofs.Walking.{bytes_of_frames-push, some_bytes}
use Rattle.link_base.proofs.Written.{all_append}

-- ---- the frame at the start

-- bytes that are 0 at each index are zeros
pub zeros : (xs : List ℕ) → ((k : ℕ) → k < length xs → get_or xs k 0 ≡ 0) → xs ≡ replicate (length xs) 0
zeros [] h = refl
zeros (x ∷ xs) h = ap₂ (λ a t. a ∷ t) (h 0 (omega arith)) (zeros xs (λ k lt. h (suc k) (omega arith)))

-- what follows a frame without its padding
behind : (s : List ℕ) (f : ℕ) (p : List ℕ) (b : BeginsWith s (bare f p)) → drop (4 + length p) s ≡ b.rest
behind s f p b =
    let front = frame_bytes (bare f p) in
    let len : 4 + length p ≡ length front = omega (arith, length-frame_bytes (bare f p)) in
    ap (drop (4 + length p)) b.string ∙ ap (λ m. drop m (front ++ b.rest)) len ∙ drop-append_seam front b.rest

-- the bytes at which the padding of a frame should be
abbrev pub padding_of : List ℕ → List ℕ → List ℕ
padding_of s p = take (gap p) (drop (4 + length p) s)

-- a frame whose padding is complete and zero
pub whole_front : (s : List ℕ) (f : ℕ) (p : List ℕ) → BeginsWith s (bare f p) → gap p ≤ length (drop (4 + length p) s) → ((k : ℕ) → k < length (padding_of s p) → get_or (padding_of s p) k 0 ≡ 0)
    → SplitsWhole s f p (drop (gap p) (drop (4 + length p) s))
whole_front s f p b room zero =
    let g = gap p in
    let tail = drop (4 + length p) s in
    let z = take g tail in
    let front = frame_bytes (bare f p) in
    let size : length z ≡ g = omega (arith, length-take g tail, room) in
    let is : z ≡ replicate g 0 = zeros z zero ∙ ap (λ m. replicate m 0) size in
    let shift : front ++ (replicate g 0 ++ drop g tail) ≡ frame_bytes (whole f p) ++ drop g tail = simp append_assoc in (
      record { kind_field = b.is.kind_field; payload = b.is.payload; padding = length-replicate g 0 },
      b.string ∙ ap (λ t. front ++ t) (sym (behind s f p b) ∙ sym (take-append-drop g tail)) ∙ ap (λ t. front ++ (t ++ drop g tail)) is ∙ shift,
    )

-- a frame that needs no padding
pub whole_even : (s : List ℕ) (f : ℕ) (p : List ℕ) → BeginsWith s (bare f p) → gap p ≡ 0 → SplitsWhole s f p (drop (4 + length p) s)
whole_even s f p b none =
    let tail = drop (4 + length p) s in
    let empty : take (gap p) tail ≡ [] = ap (λ g. take g tail) none in
    let found = whole_front s f p b (omega (arith, none)) (λ k lt. absurd (omega (arith, lt, ap length empty))) in
    subst (λ g. SplitsWhole s f p (drop g tail)) none found

same_begin : (s : List ℕ) (f g : ℕ) (p q rest : List ℕ) (b : BeginsWith s (bare f p)) → SplitsWhole s g q rest → SameFront (bare f p) (whole g q) b.rest rest
same_begin s f g p q rest b w = SameFront-frames (bare f p) (whole g q) b.rest rest b.is (IsFrame-complete (whole g q) w.0) (sym b.string ∙ w.1)

-- a whole frame at the start is the frame that the header describes, with complete padding
pub whole_room : (s : List ℕ) (f g : ℕ) (p q rest : List ℕ) → BeginsWith s (bare f p) → SplitsWhole s g q rest → gap p ≤ length (drop (4 + length p) s)
whole_room s f g p q rest b w =
    let same = same_begin s f g p q rest b w in
    let z : List ℕ = replicate (gap q) 0 in
    omega (arith, ap gap same.payload, ap length (behind s f p b ∙ same.rest), length-append z rest, length-replicate {A = ℕ} (gap q) 0)

-- the padding of a whole frame is zeros
pub whole_zeros : (s : List ℕ) (f g : ℕ) (p q rest : List ℕ) → BeginsWith s (bare f p) → SplitsWhole s g q rest → (k : ℕ) → k < length (padding_of s p) → get_or (padding_of s p) k 0 ≡ 0
whole_zeros s f g p q rest b w k lt =
    let same = same_begin s f g p q rest b w in
    let e : gap q ≡ gap p = ap gap (sym same.payload) in
    let z : List ℕ = replicate (gap q) 0 in
    let len : length z ≡ gap q = length-replicate {A = ℕ} (gap q) 0 in
    let tail : drop (4 + length p) s ≡ z ++ rest = behind s f p b ∙ same.rest in
    let is : padding_of s p ≡ z = ap (take (gap p)) tail ∙ ap (λ m. take m (z ++ rest)) (sym e ∙ sym len) ∙ take-append_seam z rest in
    ap (λ t. get_or t k 0) is ∙ get_or-replicate {A = ℕ} (gap q) k 0 0 (omega (arith, lt, ap length is, len))

-- bytes start with at most one whole frame
pub one_whole : (s : List ℕ) (f g : ℕ) (p q a b : List ℕ) → SplitsWhole s f p a → SplitsWhole s g q b → (f ≡ g) × (p ≡ q) × (a ≡ b)
one_whole s f g p q a b v w =
    let same = SameFront-frames (whole f p) (whole g q) a b (IsFrame-complete (whole f p) v.0) (IsFrame-complete (whole g q) w.0) (sym v.1 ∙ w.1) in
    let zeros_too : replicate (gap q) 0 ++ b ≡ replicate (gap p) 0 ++ b = ap (λ m. replicate m 0 ++ b) (ap gap (sym same.payload)) in
    (same.kind_field, same.payload, append_cancel_left (replicate (gap p) 0) a b (same.rest ∙ zeros_too))

-- a whole frame is not empty
pub whole_some : (s : List ℕ) (f : ℕ) (p rest : List ℕ) → SplitsWhole s f p rest → length rest + 4 ≤ length s
whole_some s f p rest w = omega (arith, ap length w.1, length-append (frame_bytes (whole f p)) rest, length-frame_bytes (whole f p))

pub whole_not_nil : (s : List ℕ) (f : ℕ) (p rest : List ℕ) → SplitsWhole s f p rest → s ≢ []
whole_not_nil s f p rest w e = omega (arith, whole_some s f p rest w, ap length e)

-- ---- canonical frames

module _ (allows : ℕ → List ℕ → Type 0) where
  -- a canonical frame is a whole frame
  canonical_whole : (s : List ℕ) (x : Frame) (after : List ℕ) → IsCanonicalFrame allows x → s ≡ frame_bytes x ++ after → SplitsWhole s x.kind_field x.payload after
  canonical_whole s x after h e =
      let same : frame_bytes x ++ after ≡ frame_bytes (whole x.kind_field x.payload) ++ after =
      ap (λ z. frame_bytes (record { kind_field = x.kind_field; payload = x.payload; padding = z }) ++ after) h.zeros in
      (record { kind_field = h.complete.kind_field; payload = h.complete.payload; padding = length-replicate (gap x.payload) 0 }, e ∙ same)

  -- canonical frames before the rest
  pub record Passed (s rest : List ℕ) : Type 0 where
    pub front : List Frame
    pub string : s ≡ bytes_of_frames front ++ rest
    pub each : AllByRecursion (IsCanonicalFrame allows) front

  -- one more frame
  pub passed_more : (s rest next : List ℕ) (f : ℕ) (p : List ℕ) → Passed s rest → SplitsWhole rest f p next → allows f p → Passed s next
  passed_more s rest next f p w split allowed =
      let x = whole f p in
      record {
        front = w.front ++ x ∷ [];
        string = w.string ∙ ap (λ t. bytes_of_frames w.front ++ t) split.1 ∙ sym (append_assoc (bytes_of_frames w.front) (frame_bytes x) next) ∙ ap (λ t. t ++ next) (sym (bytes_of_frames-push w.front x));
        each = all_append (IsCanonicalFrame allows) w.front (x ∷ []) w.each (record { complete = split.0; zeros = refl; allowed = allowed }, tt);
      }

  -- the bytes do not start with a canonical frame
  abbrev pub NoneHere : List ℕ → Type 0
  NoneHere rest = (x : Frame) (after : List ℕ) → rest ≡ frame_bytes x ++ after → ¬ (IsCanonicalFrame allows x)

  pub none_allowed : (rest next : List ℕ) (f : ℕ) (p : List ℕ) → SplitsWhole rest f p next → ¬ (allows f p) → NoneHere rest
  none_allowed rest next f p w not x after e h =
      let same = one_whole rest x.kind_field f x.payload p after next (canonical_whole rest x after h e) w in
      not (subst (λ q. allows f q) same.1 (subst (λ g. allows g x.payload) same.0 h.allowed))

  -- where the check stops
  pub stops : (s rest : List ℕ) (at : ℕ) → Passed s rest → rest ≢ [] → at ≡ length s - length rest → NoneHere rest → FirstOtherBy allows s at
  stops s rest at w some place none = record {
    front = w.front;
    rest = rest;
    string = w.string;
    each = w.each;
    some = some_bytes rest some;
    offset = omega (arith, place, ap length w.string, length-append (bytes_of_frames w.front) rest);
    here = none;
  }

  -- canonical frames are not canonical frames followed by something else
  other_not : (rest : List ℕ) (xs ys : List Frame) → AllByRecursion (IsCanonicalFrame allows) xs → AllByRecursion (IsCanonicalFrame allows) ys → 0 < length rest → NoneHere rest → bytes_of_frames xs ++ rest ≡ bytes_of_frames ys → ⊥
  other_not rest [] [] hx hy some none e = omega (arith, some, ap length e)
  other_not rest [] (y ∷ ys) hx hy some none e = none y (bytes_of_frames ys) e hy.0
  other_not rest (x ∷ xs) [] hx hy some none e = absurd cc
  other_not rest (x ∷ xs) (y ∷ ys) hx hy some none e =
      let s = frame_bytes x ++ (bytes_of_frames xs ++ rest) in
      let left = canonical_whole s x (bytes_of_frames xs ++ rest) hx.0 refl in
      let right = canonical_whole s y (bytes_of_frames ys) hy.0 (sym (append_assoc (frame_bytes x) (bytes_of_frames xs) rest) ∙ e) in
      other_not rest xs ys hx.1 hy.1 some none (one_whole s x.kind_field y.kind_field x.payload y.payload (bytes_of_frames xs ++ rest) (bytes_of_frames ys) left right).2

  -- a list in which something else follows the canonical frames is not canonical
  pub not_canonical : (s : List ℕ) (at : ℕ) → FirstOtherBy allows s at → ¬ (CanonicalBy allows s)
  not_canonical s at w c = other_not w.rest w.front c.frames w.each c.each w.some w.here (sym w.string ∙ c.string)

-- ---- a result

-- a boolean result is true if and only if nothing but canonical frames was found
pub none_found : (o : Option ℕ) (b : Bool) (A : Type 0) (B : ℕ → Type 0) → is_some o ≡ not b → MatchOption o A B → ((at : ℕ) → B at → ¬ A) → IsTrue b ↔ A
none_found None true A B e h other = (λ t. h, λ a. refl)
none_found None false A B e h other = absurd cc
none_found (Some at) true A B e h other = absurd cc
none_found (Some at) false A B e h other = (λ t. absurd cc, λ a. absurd (other at h a))

-- ---- lists of addresses

-- elements of the attribute types i, i + 1 and so on
pub record AreElements (i n : ℕ) (p : List ℕ) : Type 0 where
  pub addresses : List (List ℕ)
  pub each : AllByRecursion (λ a. length a ≡ n) addresses
  pub complete : AllByRecursion IsComplete (addresses_from i addresses)
  pub string : p ≡ bytes_of_frames (addresses_from i addresses)

pub elements_none : (i n : ℕ) (p : List ℕ) → p ≡ [] → AreElements i n p
elements_none i n p e = record { addresses = []; each = tt; complete = tt; string = e }

-- the first element, and the others
pub record First (i n : ℕ) (p : List ℕ) : Type 0 where
  pub address : List ℕ
  pub others : List ℕ
  pub split : SplitsWhole p i address others
  pub size : length address ≡ n
  pub after : AreElements (i + 1) n others

first_by : (i n : ℕ) (p : List ℕ) (addresses : List (List ℕ)) → AllByRecursion (λ a. length a ≡ n) addresses → AllByRecursion IsComplete (addresses_from i addresses) → p ≡ bytes_of_frames (addresses_from i addresses) → p ≢ []
    → First i n p
first_by i n p [] each complete string some = absurd (some string)
first_by i n p (a ∷ others) each complete string some = record {
  address = a;
  others = bytes_of_frames (addresses_from (i + 1) others);
  split = (complete.0, string);
  size = each.0;
  after = record { addresses = others; each = each.1; complete = complete.1; string = refl };
}

pub first_element : (i n : ℕ) (p : List ℕ) → AreElements i n p → p ≢ [] → First i n p
first_element i n p h some = first_by i n p h.addresses h.each h.complete h.string some

-- at the end
pub elements_end : (i n : ℕ) (p : List ℕ) → AreElements i n p → ((f : ℕ) (q after : List ℕ) → ¬ (SplitsWhole p f q after)) → p ≡ []
elements_end i n [] h none = refl
elements_end i n (b ∷ p) h none = let first = first_element i n (b ∷ p) h (λ e. absurd cc) in absurd (none i first.address first.others first.split)

-- one more element
pub elements_more : (i n : ℕ) (p next a : List ℕ) → SplitsWhole p i a next → length a ≡ n → p ≢ [] → AreElements i n p ↔ AreElements (i + 1) n next
elements_more i n p next a w size some = (
  λ h.
      let first = first_element i n p h some in
      let same = one_whole p i i first.address a first.others next first.split w in
      subst (AreElements (i + 1) n) same.2 first.after,
  λ h.
      record {
        addresses = a ∷ h.addresses;
        each = (size, h.each);
        complete = (w.0, h.complete);
        string = w.1 ∙ ap (λ t. frame_bytes (whole i a) ++ t) h.string;
      },
)

-- the first element has the attribute type i and n bytes
pub first_is : (i n f : ℕ) (p next a : List ℕ) → SplitsWhole p f a next → AreElements i n p → p ≢ [] → (f ≡ i) × (length a ≡ n)
first_is i n f p next a w h some =
    let first = first_element i n p h some in
    let same = one_whole p f i a first.address next first.others w first.split in
    (same.0, ap length same.1 ∙ first.size)
