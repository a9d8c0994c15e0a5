-- The frame at the start of some bytes.
use Rattle.std.proofs.Common.{◌≡◌, ◌⊎◌, ℕ, ◌+◌, ◌-◌, ◌*◌, ◌<◌, ◌≤◌, Bool, true, false, cond, List, [], ◌∷◌, ◌++◌, length, take, drop, get_or, Some, None, refl, ap, ◌∙◌, arith, inl, inr, length-append}
use Rattle.std.specs.Prelude.{nat_lt}
use Rattle.std.proofs.lemmas.Bool.{cond-false, ltb-false, le-ltb}
use Rattle.link_base.proofs.FrameAtFront.{begins_by, begins_with, splits, step_of}
use Rattle.link_base.specs.Number.{IsBytes, number}
use Rattle.link_base.specs.Frame.{Frame, BeginsWith, bare, IsFrame, IsComplete, frame_bytes, pad, frame_fault}
use Rattle.link_base.specs.declared.wire.fault.Cause.{Cause}

-- the concatenation of bytes consists of bytes
pub bytes-append : (xs ys : List ℕ) → IsBytes xs → IsBytes ys → IsBytes (xs ++ ys)
bytes-append [] ys h k = k
bytes-append (x ∷ xs) ys h k = (h.0, bytes-append xs ys h.1 k)

-- the first n elements of bytes are bytes
pub bytes-front : (xs ys : List ℕ) → IsBytes (xs ++ ys) → IsBytes xs
bytes-front [] ys h = tt
bytes-front (x ∷ xs) ys h = (h.0, bytes-front xs ys h.1)

-- what follows the first n elements of bytes are bytes
pub bytes-back : (xs ys : List ℕ) → IsBytes (xs ++ ys) → IsBytes ys
bytes-back [] ys h = h
bytes-back (x ∷ xs) ys h = bytes-back xs ys h.1

-- the payload of a frame in bytes consists of bytes
pub bytes-payload : (x : Frame) (s : List ℕ) → IsBytes (frame_bytes x ++ s) → IsBytes x.payload
bytes-payload x s h = bytes-front x.payload x.padding (bytes-front (x.payload ++ x.padding) s h.1.1.1.1)

-- what follows a frame in bytes consists of bytes
pub bytes-rest : (x : Frame) (s : List ℕ) → IsBytes (frame_bytes x ++ s) → IsBytes s
bytes-rest x s h = bytes-back (frame_bytes x) s h

-- the length of a frame
pub length-frame_bytes : (x : Frame) → length (frame_bytes x) ≡ 4 + (length x.payload + length x.padding)
length-frame_bytes x = omega (arith, length-append x.payload x.padding)

-- the length of a complete frame
pub length-complete : (x : Frame) → IsComplete x → length (frame_bytes x) ≡ pad (4 + length x.payload)
length-complete x h = omega (arith, length-frame_bytes x, h.padding)

-- three tests that fail
no_cause : (a b c : Bool) (x y z : Cause) → a ≡ false → b ≡ false → c ≡ false → cond a (Some x) (cond b (Some y) (cond c (Some z) None)) ≡ None
no_cause a b c x y z ha hb hc = cond-false a _ _ ha ∙ cond-false b _ _ hb ∙ cond-false c _ _ hc

-- a frame has no malformed header
pub frame_fault-frame : (x : Frame) (s : List ℕ) → IsFrame x → frame_fault (frame_bytes x ++ s) ≡ None
frame_fault-frame x s h =
    let r = frame_bytes x ++ s in
    let m = 4 + length x.payload in
    let n = number (take 2 r) in
    let n_is : n ≡ m = omega (arith, h.payload) in
    let len : length r ≡ 4 + (length x.payload + length x.padding) + length s = omega (arith, length-append (x.payload ++ x.padding) s, length-append x.payload x.padding) in
    no_cause (nat_lt (length r) 4) (nat_lt n 4) (nat_lt (length r) n) _ _ _
    (le-ltb (length r) 4 (omega arith)) (le-ltb n 4 (omega arith)) (le-ltb (length r) n (omega arith))

-- if the header is not malformed, none of the tests holds
causes : (a b c : Bool) (x y z : Cause) → cond a (Some x) (cond b (Some y) (cond c (Some z) None)) ≡ None → (a ≡ false) × (b ≡ false) × (c ≡ false)
causes true b c x y z e = absurd cc
causes false true c x y z e = absurd cc
causes false false true x y z e = absurd cc
causes false false false x y z e = (refl, refl, refl)

-- `nla_len` of a header that is not malformed
stated_length : (s : List ℕ) → frame_fault s ≡ None → (4 ≤ get_or s 0 0 + get_or s 1 0 * 256) × (get_or s 0 0 + get_or s 1 0 * 256 ≤ length s)
stated_length [] e = absurd cc
stated_length (a ∷ []) e = absurd cc
stated_length (a ∷ b ∷ s) e =
    let r = a ∷ b ∷ s in
    let n = number (take 2 r) in
    let tests = causes (nat_lt (length r) 4) (nat_lt n 4) (nat_lt (length r) n) _ _ _ e in
    (omega (arith, ltb-false n 4 tests.1), omega (arith, ltb-false (length r) n tests.2))

-- if the header is not malformed, the bytes start with the frame that it describes
pub begins-no_fault : (s : List ℕ) (n f : ℕ) (p : List ℕ) → ((i : ℕ) → get_or s i 0 < 256) → frame_fault s ≡ None → n ≡ get_or s 0 0 + get_or s 1 0 * 256 → f ≡ get_or s 2 0 + get_or s 3 0 * 256
    → p ≡ take (n - 4) (drop 4 s) → BeginsWith s (bare f p)
begins-no_fault s n f p h e stated field is = let bounds = stated_length s e in begins_with s n f p h stated (omega (arith, stated, bounds.0)) (omega (arith, stated, bounds.1)) field is

-- the frame at the start, with all the padding that is present
pub record Front (s : List ℕ) : Type 0 where
  pub frame : Frame
  pub rest : List ℕ
  pub string : s ≡ frame_bytes frame ++ rest
  pub is : IsFrame frame
  pub last : (length rest ≡ 0) ⊎ IsComplete frame

-- the frame at the start, from the four bytes of the header and what follows
front_by : (a b c d : ℕ) (body : List ℕ) → a < 256 → b < 256 → c < 256 → d < 256 → 4 ≤ a + 256 * b → a + 256 * b ≤ 4 + length body → Front (a ∷ b ∷ c ∷ d ∷ body)
front_by a b c d body ha hb hc hd low high =
    let s = a ∷ b ∷ c ∷ d ∷ body in
    let f = c + d * 256 in
    let p = take (a + b * 256 - 4) body in
    let at = splits s f p (begins_by a b c d body (a + b * 256) f ha hb hc hd refl (omega arith) (omega arith) refl) in
    record {
      frame = record { kind_field = f; payload = p; padding = at.padding };
      rest = drop (step_of s p) s;
      string = at.string;
      is = at.is;
      last = elim at.last [ inl e ↦ inl (ap length e) | inr complete ↦ inr complete ];
    }

-- the frame at the start, if its length is possible
front_from : (s : List ℕ) → IsBytes s → 4 ≤ length s → 4 ≤ number (take 2 s) → number (take 2 s) ≤ length s → Front s
front_from [] h four low high = absurd (omega arith)
front_from (a ∷ []) h four low high = absurd (omega arith)
front_from (a ∷ b ∷ []) h four low high = absurd (omega arith)
front_from (a ∷ b ∷ c ∷ []) h four low high = absurd (omega arith)
front_from (a ∷ b ∷ c ∷ d ∷ body) h four low high = front_by a b c d body h.0 h.1.0 h.1.1.0 h.1.1.1.0 (omega arith) (omega arith)

-- if the header is not malformed, the bytes start with a frame
pub Front-no_fault : (s : List ℕ) → IsBytes s → frame_fault s ≡ None → Front s
Front-no_fault s h e =
    let n = number (take 2 s) in
    let tests = causes (nat_lt (length s) 4) (nat_lt n 4) (nat_lt (length s) n) _ _ _ e in
    front_from s h (ltb-false (length s) 4 tests.0) (ltb-false n 4 tests.1) (ltb-false (length s) n tests.2)
