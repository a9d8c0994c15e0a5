-- Bytes can be split into frames in at most one way.
use Rattle.std.proofs.Common.{◌≡◌, ℕ, ◌+◌, ◌/◌, ◌%◌, List, [], ◌∷◌, ◌++◌, length, take, drop, refl, sym, ap, ap₂, ◌∙◌, arith, append_assoc, length-append}
use Rattle.std.proofs.lemmas.List.{take_at, drop_at, append-nil}
use Rattle.link_base.specs.Frame.{Frame, Frames, IsFrame, IsComplete, AreFrames, frame_bytes, bytes_of_frames, gap}

-- frames with equal parts are equal
pub same_frame : (x y : Frame) → x.kind_field ≡ y.kind_field → x.payload ≡ y.payload → x.padding ≡ y.padding → x ≡ y
same_frame x y f p z = λ i. record { kind_field = f i; payload = p i; padding = z i }

-- two splits of a list at one index are equal
pub same_parts : (a b c d : List ℕ) → length a ≡ length c → a ++ b ≡ c ++ d → (a ≡ c) × (b ≡ d)
same_parts a b c d len e = (
  sym (take_at a b (length a) refl) ∙ ap (take (length a)) e ∙ take_at c d (length a) (sym len),
  sym (drop_at a b (length a) refl) ∙ ap (drop (length a)) e ∙ drop_at c d (length a) (sym len),
)

-- a complete frame is a frame
pub IsFrame-complete : (x : Frame) → IsComplete x → IsFrame x
IsFrame-complete x h = record { kind_field = h.kind_field; payload = h.payload; padding = omega (arith, h.padding) }

-- the first frame, and what follows its payload
pub record SameFront (x y : Frame) (s t : List ℕ) : Type 0 where
  pub kind_field : x.kind_field ≡ y.kind_field
  pub payload : x.payload ≡ y.payload
  pub rest : x.padding ++ s ≡ y.padding ++ t

-- two frames at the start of the same bytes have the same `nla_type` and the same payload
pub SameFront-frames : (x y : Frame) (s t : List ℕ) → IsFrame x → IsFrame y → frame_bytes x ++ s ≡ frame_bytes y ++ t → SameFront x y s t
SameFront-frames x y s t hx hy e =
    let m = 4 + length x.payload in
    let n = 4 + length y.payload in
    let e0 : m % 256 ≡ n % 256 = cc in
    let e1 : m / 256 % 256 ≡ n / 256 % 256 = cc in
    let e2 : x.kind_field % 256 ≡ y.kind_field % 256 = cc in
    let e3 : x.kind_field / 256 % 256 ≡ y.kind_field / 256 % 256 = cc in
    let rest : (x.payload ++ x.padding) ++ s ≡ (y.payload ++ y.padding) ++ t = cc in
    let len : length x.payload ≡ length y.payload = omega (arith, hx.payload, hy.payload) in
    let parts = same_parts x.payload (x.padding ++ s) y.payload (y.padding ++ t) len
    (sym (append_assoc x.payload x.padding s) ∙ rest ∙ append_assoc y.payload y.padding t) in
    record { kind_field = omega (arith, hx.kind_field, hy.kind_field); payload = parts.0; rest = parts.1 }

-- the first of some frames is a frame
pub AreFrames-head : (x : Frame) (xs : List Frame) → AreFrames (x ∷ xs) → IsFrame x
AreFrames-head x [] h = h
AreFrames-head x (y ∷ xs) h = IsFrame-complete x h.0

-- complete padding after equal payloads has the same length
pub same_gap : (x y : Frame) → x.payload ≡ y.payload → gap x.payload ≡ gap y.payload
same_gap x y e = ap gap e

-- lists of frames with the same bytes are equal
one_cut_by : (xs ys : List Frame) → AreFrames xs → AreFrames ys → bytes_of_frames xs ≡ bytes_of_frames ys → xs ≡ ys
one_cut_by [] [] hx hy e = refl
one_cut_by [] (y ∷ ys) hx hy e = absurd cc
one_cut_by (x ∷ xs) [] hx hy e = absurd cc
one_cut_by (x ∷ []) (y ∷ []) hx hy e =
    let same = SameFront-frames x y [] [] hx hy e in
    ap (λ z. z ∷ []) (same_frame x y same.kind_field same.payload (sym (append-nil x.padding) ∙ same.rest ∙ append-nil y.padding))
one_cut_by (x ∷ []) (y ∷ y2 ∷ ys) hx hy e =
    let same = SameFront-frames x y [] (bytes_of_frames (y2 ∷ ys)) hx (IsFrame-complete y hy.0) e in
    let g = same_gap x y same.payload in
    absurd (omega (arith, ap length same.rest, length-append x.padding [], length-append y.padding (bytes_of_frames (y2 ∷ ys)), hx.padding, hy.0.padding))
one_cut_by (x ∷ x2 ∷ xs) (y ∷ []) hx hy e =
    let same = SameFront-frames x y (bytes_of_frames (x2 ∷ xs)) [] (IsFrame-complete x hx.0) hy e in
    let g = same_gap x y same.payload in
    absurd (omega (arith, ap length same.rest, length-append y.padding [], length-append x.padding (bytes_of_frames (x2 ∷ xs)), hy.padding, hx.0.padding))
one_cut_by (x ∷ x2 ∷ xs) (y ∷ y2 ∷ ys) hx hy e =
    let same = SameFront-frames x y (bytes_of_frames (x2 ∷ xs)) (bytes_of_frames (y2 ∷ ys)) (IsFrame-complete x hx.0) (IsFrame-complete y hy.0) e in
    let g = same_gap x y same.payload in
    let parts = same_parts x.padding (bytes_of_frames (x2 ∷ xs)) y.padding (bytes_of_frames (y2 ∷ ys)) (omega (arith, hx.0.padding, hy.0.padding)) same.rest in
    ap₂ (λ a b. a ∷ b) (same_frame x y same.kind_field same.payload parts.0) (one_cut_by (x2 ∷ xs) (y2 ∷ ys) hx.1 hy.1 parts.1)

-- bytes can be split into frames in at most one way
pub one_cut_lem : (s : List ℕ) (xs ys : List Frame) → Frames s xs → Frames s ys → xs ≡ ys
one_cut_lem s xs ys hx hy = one_cut_by xs ys hx.frames hy.frames (sym hx.string ∙ hy.string)
