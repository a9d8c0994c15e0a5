-- The frame at the start of some bytes, as a parser finds it.
use Rattle.std.proofs.Common.{◌≡◌, ◌⊎◌, ℕ, ◌+◌, ◌-◌, ◌*◌, ◌/◌, ◌%◌, ◌<◌, ◌≤◌, List, [], ◌∷◌, ◌++◌, length, take, drop, min, get_or, sym, ap, subst, ◌∙◌, arith, inl, inr, append_assoc}
use Rattle.std.proofs.lemmas.List.{append-nil, length-append, length-take, length-drop, take-append-drop, drop-drop, nil_from_length}
use Rattle.std.proofs.Math.Seq.{drop-append_seam}
use Rattle.std.proofs.lemmas.Bool.{cases_lt}
use Rattle.link_base.specs.Frame.{Frame, BeginsWith, bare, IsFrame, IsComplete, frame_bytes, pad}

-- a header whose `nla_len` is within the bytes
pub begins_by : (a b c d : ℕ) (body : List ℕ) (n f : ℕ) → a < 256 → b < 256 → c < 256 → d < 256 → n ≡ a + b * 256 → 4 ≤ n → n ≤ 4 + length body → f ≡ c + d * 256
    → BeginsWith (a ∷ b ∷ c ∷ d ∷ body) (bare f (take (n - 4) body))
begins_by a b c d body n f ha hb hc hd stated low high field =
    let p = take (n - 4) body in
    let rest = drop (n - 4) body in
    let len : length p ≡ n - 4 = omega (arith, length-take (n - 4) body) in
    let e0 : a ≡ (4 + length p) % 256 = omega arith in
    let e1 : b ≡ (4 + length p) / 256 % 256 = omega arith in
    let e2 : c ≡ f % 256 = omega arith in
    let e3 : d ≡ f / 256 % 256 = omega arith in
    let e4 : body ≡ (p ++ []) ++ rest = sym (take-append-drop (n - 4) body) ∙ ap (λ t. t ++ rest) (sym (append-nil p)) in
    record {
      rest = rest;
      is = record { kind_field = omega arith; payload = omega arith; padding = omega arith };
      string = λ i. e0 i ∷ e1 i ∷ e2 i ∷ e3 i ∷ e4 i;
    }

begins_at : (s : List ℕ) (n f : ℕ) → ((i : ℕ) → get_or s i 0 < 256) → n ≡ get_or s 0 0 + get_or s 1 0 * 256 → 4 ≤ n → n ≤ length s → f ≡ get_or s 2 0 + get_or s 3 0 * 256
    → BeginsWith s (bare f (take (n - 4) (drop 4 s)))
begins_at [] n f h stated low high field = absurd (omega arith)
begins_at (a ∷ []) n f h stated low high field = absurd (omega arith)
begins_at (a ∷ b ∷ []) n f h stated low high field = absurd (omega arith)
begins_at (a ∷ b ∷ c ∷ []) n f h stated low high field = absurd (omega arith)
begins_at (a ∷ b ∷ c ∷ d ∷ body) n f h stated low high field = begins_by a b c d body n f (h 0) (h 1) (h 2) (h 3) stated low (omega arith) field

-- bytes whose `nla_len` is within them start with the frame of that length
pub begins_with : (s : List ℕ) (n f : ℕ) (p : List ℕ) → ((i : ℕ) → get_or s i 0 < 256) → n ≡ get_or s 0 0 + get_or s 1 0 * 256 → 4 ≤ n → n ≤ length s → f ≡ get_or s 2 0 + get_or s 3 0 * 256
    → p ≡ take (n - 4) (drop 4 s) → BeginsWith s (bare f p)
begins_with s n f p h stated low high field is = subst (λ q. BeginsWith s (bare f q)) (sym is) (begins_at s n f h stated low high field)

-- ---- the frame at the start, with all its padding

-- a frame at the start, and the bytes where the next one is
pub record Splits (s : List ℕ) (f : ℕ) (p next : List ℕ) : Type 0 where
  pub padding : List ℕ
  pub is : IsFrame (record { kind_field = f; payload = p; padding = padding })
  pub string : s ≡ frame_bytes (record { kind_field = f; payload = p; padding = padding }) ++ next
  pub last : (next ≡ []) ⊎ IsComplete (record { kind_field = f; payload = p; padding = padding })

-- the offset of the next frame
abbrev pub step_of : List ℕ → List ℕ → ℕ
step_of s p = min (pad (4 + length p)) (length s)

length-frame : (f : ℕ) (p z : List ℕ) → length (frame_bytes (record { kind_field = f; payload = p; padding = z })) ≡ 4 + (length p + length z)
length-frame f p z = omega (arith, length-append p z)

-- bytes that start with a frame are that frame with its padding, and the rest
pub splits : (s : List ℕ) (f : ℕ) (p : List ℕ) → BeginsWith s (bare f p) → Splits s f p (drop (step_of s p) s)
splits s f p b =
    let n = 4 + length p in
    let tail = b.rest in
    let k = step_of s p - n in
    let z = take k tail in
    let front = frame_bytes (bare f p) in
    let len : length front ≡ n = omega (arith, length-frame f p []) in
    let room : length s ≡ n + length tail = ap length b.string ∙ length-append front tail ∙ ap (λ m. m + length tail) len in
    let size : length z ≡ k = omega (arith, room, length-take k tail) in
    let drops : drop n s ≡ tail = ap (drop n) b.string ∙ ap (λ m. drop m (front ++ tail)) (sym len) ∙ drop-append_seam front tail in
    let next : drop k tail ≡ drop (step_of s p) s = ap (drop k) (sym drops) ∙ drop-drop k n s ∙ ap (λ m. drop m s) (omega (arith, room)) in
    let shift : front ++ (z ++ drop k tail) ≡ frame_bytes (record { kind_field = f; payload = p; padding = z }) ++ drop k tail = simp append_assoc in
    let x : Frame = record { kind_field = f; payload = p; padding = z } in
    record {
      padding = z;
      is = record { kind_field = b.is.kind_field; payload = b.is.payload; padding = omega (arith, room, size) };
      string = b.string ∙ ap (λ t. front ++ t) (sym (take-append-drop k tail)) ∙ shift ∙ ap (λ t. frame_bytes x ++ t) next;
      last = elim (cases_lt (pad n) (length s)) [
        | inl lt ↦ inr (record { kind_field = b.is.kind_field; payload = b.is.payload; padding = omega (arith, size, room) })
        | inr le ↦ inl (nil_from_length (drop (step_of s p) s) (omega (arith, length-drop (step_of s p) s)))
      ];
    }
