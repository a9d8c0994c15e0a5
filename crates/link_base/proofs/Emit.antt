-- A frame is written in three parts, and a list one frame at a time.
use Rattle.std.proofs.Common.{◌≡◌, ℕ, ◌+◌, ◌-◌, ◌≤◌, ◌<◌, List, [], ◌∷◌, ◌++◌, length, take, drop, get_or, map, zero, suc, refl, sym, ap, subst, ◌∙◌, append_assoc, arith}
use Rattle.std.specs.Prelude.{replicate}
use Rattle.std.specs.List.{AllByRecursion}
use borrow.Rule.Slice.PartMut.{put_mid}
use Rattle.std.proofs.lemmas.List.{length-append, length-replicate, length-drop, length-take, take_at, drop_at, append-nil, nil_from_length, drop-drop, drop-replicate, drop-append-le, take_more, map-append, length-map, take-append-drop}
use Rattle.std.proofs.Math.Seq.{take-length, drop-append-add}
use Rattle.std.proofs.lemmas.Grind.{flat_map-append}
use Rattle.std.proofs.lemmas.Slice.{take-put_mid, drop-put_mid, drop-append-drop}
use Rattle.link_base.specs.Number.{bytes_of}
use Rattle.link_base.specs.Frame.{frame_bytes, gap, pad}
use Rattle.link_base.specs.Wire.{whole}
use Rattle.link_base.specs.Table.{AttrValue, written_payload, written_frame, written_list, Fits}
use Rattle.link_base.specs.Answers.{OverwritesFront, IsFirstUnfit}

-- a written frame has the length of its header and payload, rounded up to four
pub length-whole_bytes : (f : ℕ) (p : List ℕ) → length (frame_bytes (whole f p)) ≡ pad (4 + length p)
length-whole_bytes f p = omega (arith, length-append p (replicate (gap p) 0), length-replicate {A = ℕ} (gap p) 0)

-- after zeros over its last four bytes, header and payload complete the frame
pub put_frame : (b0 b1 b2 b3 : List ℕ) (f : ℕ) (p : List ℕ) (n end : ℕ) → n ≡ length p → end ≡ pad (4 + length p) → end ≤ length b0
    → b1 ≡ take (end - 4) b0 ++ (replicate 4 0 ++ drop (end - 4 + 4) b0) → b2 ≡ (bytes_of 2 (4 + n) ++ bytes_of 2 f) ++ drop 4 b1 → b3 ≡ put_mid 4 n b2 p → OverwritesFront b0 b3 (frame_bytes (whole f p))
put_frame b0 b1 b2 b3 f p n end e-n e-end room e1 e2 e3 =
    let head = bytes_of 2 (4 + n) ++ bytes_of 2 f in
    let front = take (end - 4) b0 in
    let tail = drop (end - 4 + 4) b0 in
    let k = 4 + n - (end - 4) in
    let zeros : List ℕ = replicate 4 0 in
    let size : length front ≡ end - 4 = omega (arith, length-take (end - 4) b0) in
    let len1 : length b1 ≡ length b0 = omega (arith, ap length e1, length-append front (zeros ++ tail), length-append zeros tail, length-drop (end - 4 + 4) b0, size) in
    let len2 : length b2 ≡ length b0 = omega (arith, ap length e2, length-append head (drop 4 b1), length-drop 4 b1, len1) in
    let front3 : take (4 + n) b3 ≡ head ++ p = ap (take (4 + n)) e3 ∙ take-put_mid 4 n b2 p (4 + n) (omega arith) (omega arith) ∙ ap (λ t. t ++ p) (ap (take 4) e2 ∙ take_at head (drop 4 b1) 4 refl) in
    let back3 : drop (4 + n) b3 ≡ drop (4 + n) b2 = ap (drop (4 + n)) e3 ∙ drop-put_mid 4 n b2 p (4 + n) (omega arith) (omega arith) (sym e-n) in
    let back2 : drop (4 + n) b2 ≡ drop (4 + n) b1 = ap (drop (4 + n)) e2 ∙ drop-append-drop 4 b1 head (4 + n) (omega arith) refl in
    let place : length front + k ≡ 4 + n = omega arith in
    let back1 : drop (4 + n) b1 ≡ replicate (4 - k) 0 ++ tail =
    ap (λ i. drop i b1) (sym place) ∙ ap (drop (length front + k)) e1 ∙ drop-append-add front (zeros ++ tail) k ∙ drop-append-le k zeros tail (omega arith) ∙ ap (λ t. t ++ tail) (drop-replicate k 4 0) in
    let gaps : 4 - k ≡ gap p = omega arith in
    let long : end - 4 + 4 ≡ length (frame_bytes (whole f p)) = omega (arith, e-end, length-whole_bytes f p) in
    let behind = drop (length (frame_bytes (whole f p))) b0 in
    let header = bytes_of 2 (4 + length p) ++ bytes_of 2 f in
    let whole_frame : (header ++ p) ++ (replicate (gap p) 0 ++ behind) ≡ frame_bytes (whole f p) ++ behind = simp append_assoc in
    sym (take-append-drop (4 + n) b3) ∙ ap (λ t. t ++ drop (4 + n) b3) front3 ∙ ap (λ t. (head ++ p) ++ t) (back3 ∙ back2 ∙ back1)
    ∙ ap (λ m. (head ++ p) ++ (replicate m 0 ++ tail)) gaps ∙ ap (λ i. (head ++ p) ++ (replicate (gap p) 0 ++ drop i b0)) long
    ∙ ap (λ m. ((bytes_of 2 (4 + m) ++ bytes_of 2 f) ++ p) ++ (replicate (gap p) 0 ++ behind)) e-n ∙ whole_frame

-- ---- one frame at a time

module _ {X V : Type 0} (means : X → V) where
  -- one more element of a list
  pub one_more : (xs : List X) (i : ℕ) (x : X) → i < length xs → x ≡ get_or xs i x → map means (take (i + 1) xs) ≡ map means (take i xs) ++ means x ∷ []
  one_more xs i x lt is =
      ap (map means) (take_more xs i x lt ∙ ap (λ y. take i xs ++ y ∷ []) (sym is)) ∙ map-append means (take i xs) (x ∷ [])

  -- a fact about the values so far and the next one
  pub all_more : (P : V → Type 0) (xs : List X) (i : ℕ) (x : X) → i < length xs → x ≡ get_or xs i x → AllByRecursion P (map means (take i xs)) → P (means x) → AllByRecursion P (map means (take (i + 1) xs))
  all_more P xs i x lt is all here = subst (AllByRecursion P) (sym (one_more xs i x lt is)) (push (map means (take i xs)) all)
    where
      push : (vs : List V) → AllByRecursion P vs → AllByRecursion P (vs ++ means x ∷ [])
      push [] h = (here, tt)
      push (v ∷ vs) h = (h.0, push vs h.1)

  -- the fact about each element
  pub all_at : (P : V → Type 0) (xs : List X) (i : ℕ) (d : X) → AllByRecursion P (map means xs) → i < length xs → P (means (get_or xs i d))
  all_at P [] i d all lt = absurd (omega arith)
  all_at P (x ∷ xs) zero d all lt = all.0
  all_at P (x ∷ xs) (suc i) d all lt = all_at P xs i d all.1 (omega arith)

module _ {X : Type 0} (means : X → AttrValue) where
  -- one more frame of the written list
  pub written_more : (xs : List X) (i : ℕ) (x : X) → i < length xs → x ≡ get_or xs i x → written_list (map means (take (i + 1) xs)) ≡ written_list (map means (take i xs)) ++ written_frame (means x)
  written_more xs i x lt is =
      ap written_list (one_more means xs i x lt is) ∙ flat_map-append written_frame (map means (take i xs)) (means x ∷ [])
      ∙ ap (λ (t : List ℕ). written_list (map means (take i xs)) ++ t) (append-nil (written_frame (means x)))

  -- what is written so far and the next frame are together no longer than the whole list
  pub written_room : (xs : List X) (i : ℕ) (x : X) → i < length xs → x ≡ get_or xs i x → length (written_list (map means (take i xs))) + length (written_frame (means x)) ≤ length (written_list (map means xs))
  written_room xs i x lt is =
      let front = take (i + 1) xs in
      let back = drop (i + 1) xs in
      let split : written_list (map means xs) ≡ written_list (map means front) ++ written_list (map means back) =
      ap (λ ys. written_list (map means ys)) (sym (take-append-drop (i + 1) xs)) ∙ ap written_list (map-append means front back) ∙ flat_map-append written_frame (map means front) (map means back) in
      let more = written_more xs i x lt is in
      omega (arith, ap length split, length-append (written_list (map means front)) (written_list (map means back)), ap length more, length-append (written_list (map means (take i xs))) (written_frame (means x)))

  -- the first value that does not fit, if all before it fit
  pub first_unfit_at : (xs : List X) (i : ℕ) (x : X) → i < length xs → x ≡ get_or xs i x → AllByRecursion Fits (map means (take i xs)) → 65531 < length (written_payload (means x)) → IsFirstUnfit (map means xs) i
  first_unfit_at xs i x lt is all long =
      let front = take (i + 1) xs in
      let back = drop (i + 1) xs in
      let before = map means (take i xs) in
      record {
        before = before;
        value = means x;
        after = map means back;
        values = ap (map means) (sym (take-append-drop (i + 1) xs)) ∙ map-append means front back ∙ ap (λ vs. vs ++ map means back) (one_more means xs i x lt is) ∙ append_assoc before (means x ∷ []) (map means back);
        place = omega (arith, length-map (take i xs) means, length-take i xs);
        fit = all;
        unfit = long;
      }

-- the buffer after one more frame
pub frame_after : (b0 b b' text frame sub : List ℕ) (at : ℕ) → OverwritesFront b0 b text → at ≡ length text → length text + length frame ≤ length b0 → sub ≡ frame ++ drop (length frame) (take (length b - at) (drop at b)) → b' ≡ put_mid at (length b - at) b sub → OverwritesFront b0 b' (text ++ frame)
frame_after b0 b b' text frame sub at so_far e-at room e-sub e-b' =
    let len-b : length b ≡ length b0 = omega (arith, ap length so_far, length-append text (drop (length text) b0), length-drop (length text) b0) in
    let front : take at b ≡ text = ap (take at) so_far ∙ take_at text (drop (length text) b0) at (sym e-at) in
    let back : drop at b ≡ drop (length text) b0 = ap (drop at) so_far ∙ drop_at text (drop (length text) b0) at (sym e-at) in
    let all : take (length b - at) (drop at b) ≡ drop (length text) b0 = ap (λ (n : ℕ). take n (drop at b)) (sym (length-drop at b)) ∙ take-length (drop at b) ∙ back in
    let past : drop (length b - at) (drop at b) ≡ [] = nil_from_length (drop (length b - at) (drop at b)) (omega (arith, length-drop (length b - at) (drop at b), length-drop at b)) in
    let far : drop (length frame) (drop (length text) b0) ≡ drop (length (text ++ frame)) b0 = drop-drop (length frame) (length text) b0 ∙ ap (λ (n : ℕ). drop n b0) (sym (length-append text frame)) in
    let part : sub ≡ frame ++ drop (length (text ++ frame)) b0 = e-sub ∙ ap (λ (t : List ℕ). frame ++ drop (length frame) t) all ∙ ap (λ (t : List ℕ). frame ++ t) far in
    e-b' ∙ rw (front, past, part) (simp (append_assoc, append-nil))

-- a part of the buffer at its start, and one that fills the rest
pub two_parts : (b0 front b back b' : List ℕ) (at : ℕ) → at ≡ length front → b ≡ front ++ drop at b0 → length b0 ≡ at + length back → b' ≡ put_mid at (length b - at) b back → b' ≡ front ++ back
two_parts b0 front b back b' at size e-b room e-b' =
    let end = at + length back in
    let len : length b ≡ end = omega (arith, ap length e-b, length-append front (drop at b0), length-drop at b0) in
    let all : take end b' ≡ front ++ back =
    ap (take end) e-b' ∙ take-put_mid at (length b - at) b back end refl (omega arith) ∙ ap (λ t. t ++ back) (ap (take at) e-b ∙ take_at front (drop at b0) at (sym size)) in
    let none : drop end b' ≡ [] =
    ap (drop end) e-b' ∙ drop-put_mid at (length b - at) b back end (omega arith) (omega arith) (omega arith) ∙ nil_from_length (drop end b) (omega (arith, length-drop end b)) in
    sym (take-append-drop end b') ∙ ap (λ t. t ++ drop end b') all ∙ ap (λ t. (front ++ back) ++ t) none ∙ append-nil (front ++ back)

-- if one value does not fit, not all fit
pub not_all_fit : (vs : List AttrValue) (i : ℕ) → IsFirstUnfit vs i → AllByRecursion Fits vs → ⊥
not_all_fit vs i u all = past u.before (subst (AllByRecursion Fits) u.values all)
  where
    past : (before : List AttrValue) → AllByRecursion Fits (before ++ u.value ∷ u.after) → ⊥
    past [] h = omega (arith, h.0, u.unfit)
    past (v ∷ before) h = past before h.1
