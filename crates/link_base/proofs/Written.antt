-- What is written for values that a program holds, and what it decodes to.
use Rattle.std.proofs.Common.{◌≡◌, ◌↔◌, ℕ, ◌<◌, ◌≤◌, List, [], ◌∷◌, ◌++◌, length, map, replicate, refl, sym, ap, ap₂, subst, ◌∙◌, arith, append_assoc}
use Rattle.std.specs.List.{AllByRecursion}
use Rattle.std.proofs.lemmas.List.{length-replicate}
use Rattle.link_base.specs.Number.{IsBytes}
use Rattle.link_base.specs.Frame.{Frame, Frames, IsComplete, AreFrames, frame_bytes, bytes_of_frames, gap}
use Rattle.link_base.specs.Wire.{Reading, Wire, whole, written_by, FitsBy}
use Rattle.link_base.specs.Lawful.{IsReading, IsHolding}
use Rattle.link_base.proofs.FrameBytes.{bytes-append, bytes-back, bytes-payload}
use Rattle.link_base.proofs.Values.{bytes-zeros}
use Rattle.link_base.proofs.Readings.{AreFrames-cons, ReadEach, one_values}

-- ---- frames

-- complete frames are frames
pub AreFrames-complete : (xs : List Frame) → AllByRecursion IsComplete xs → AreFrames xs
AreFrames-complete [] h = tt
AreFrames-complete (x ∷ xs) h = AreFrames-cons x xs h.0 (AreFrames-complete xs h.1)

-- the bytes of two lists of frames, joined
pub bytes_of_frames-append : (xs ys : List Frame) → bytes_of_frames (xs ++ ys) ≡ bytes_of_frames xs ++ bytes_of_frames ys
bytes_of_frames-append [] ys = refl
bytes_of_frames-append (x ∷ xs) ys = ap (λ t. frame_bytes x ++ t) (bytes_of_frames-append xs ys) ∙ sym (append_assoc (frame_bytes x) (bytes_of_frames xs) (bytes_of_frames ys))

-- a written frame is complete
pub IsComplete-whole : (f : ℕ) (p : List ℕ) → f < 65536 → length p ≤ 65531 → IsComplete (whole f p)
IsComplete-whole f p hf hp = record { kind_field = hf; payload = hp; padding = length-replicate (gap p) 0 }

-- a written frame consists of bytes
pub bytes-whole : (f : ℕ) (p : List ℕ) → IsBytes p → IsBytes (frame_bytes (whole f p))
bytes-whole f p h = (omega arith, (omega arith, (omega arith, (omega arith, bytes-append p (replicate (gap p) 0) h (bytes-zeros (gap p))))))

-- a frame in some bytes has a 16-bit `nla_type`, and a payload of bytes that fits
pub record IsKnown (x : Frame) : Type 0 where
  pub kind_field : x.kind_field < 65536
  pub payload : length x.payload ≤ 65531
  pub bytes : IsBytes x.payload

-- each frame in some bytes is such a frame
known : (xs : List Frame) → AreFrames xs → IsBytes (bytes_of_frames xs) → AllByRecursion IsKnown xs
known [] h k = tt
known (x ∷ []) h k = (record { kind_field = h.kind_field; payload = h.payload; bytes = bytes-payload x [] k }, tt)
known (x ∷ y ∷ xs) h k = (
  record { kind_field = h.0.kind_field; payload = h.0.payload; bytes = bytes-payload x (bytes_of_frames (y ∷ xs)) k },
  known (y ∷ xs) h.1 (bytes-back (frame_bytes x) (bytes_of_frames (y ∷ xs)) k),
)

-- the frames that bytes are split into are such frames
pub known_of : (s : List ℕ) (xs : List Frame) → IsBytes s → Frames s xs → AllByRecursion IsKnown xs
known_of s xs h w = known xs w.frames (subst IsBytes w.string h)

-- ---- facts about each item

-- what follows from a fact about each item, item by item
pub all_each : {A : Type 0} (P Q : A → Type 0) → ((x : A) → P x → Q x) → (xs : List A) → AllByRecursion P xs → AllByRecursion Q xs
all_each P Q f [] h = tt
all_each P Q f (x ∷ xs) h = (f x h.0, all_each P Q f xs h.1)

-- what holds of each item of two lists
pub all_append : {A : Type 0} (P : A → Type 0) (xs ys : List A) → AllByRecursion P xs → AllByRecursion P ys → AllByRecursion P (xs ++ ys)
all_append P [] ys h k = k
all_append P (x ∷ xs) ys h k = (h.0, all_append P xs ys h.1 k)

-- ---- the frames of values

module _ {V : Type 0} (field : V → ℕ) (payload : V → List ℕ) where
  -- the frame that is written for a value
  abbrev pub frame_for : V → Frame
  frame_for v = whole (field v) (payload v)

  -- what is written consists of the bytes of these frames
  pub bytes_of_frames-frames : (vs : List V) → bytes_of_frames (map frame_for vs) ≡ written_by field payload vs
  bytes_of_frames-frames [] = refl
  bytes_of_frames-frames (v ∷ vs) = ap (λ t. frame_bytes (frame_for v) ++ t) (bytes_of_frames-frames vs)

module _ {V : Type 0} {gives : Reading V} {field : V → ℕ} {payload : V → List ℕ} {canon cut : V → V} {in_range hides_none uncut : V → Type 0}
    (holding : IsHolding gives field payload canon cut in_range hides_none uncut) where
  -- ---- values in range

  -- values that fit are written as complete frames
  pub complete_frames : (vs : List V) → AllByRecursion in_range vs → AllByRecursion (FitsBy payload) vs → AllByRecursion IsComplete (map (frame_for field payload) vs)
  complete_frames [] h fit = tt
  complete_frames (v ∷ vs) h fit = (IsComplete-whole (field v) (payload v) (holding.field_below v h.0) fit.0, complete_frames vs h.1 fit.1)

  -- values are written as bytes
  pub bytes-written : (vs : List V) → AllByRecursion in_range vs → IsBytes (written_by field payload vs)
  bytes-written [] h = tt
  bytes-written (v ∷ vs) h =
      bytes-append (frame_bytes (frame_for field payload v)) (written_by field payload vs)
      (bytes-whole (field v) (payload v) (holding.payload_bytes v h.0)) (bytes-written vs h.1)

  -- the frames of values decode to their normal forms, after `cut`
  back_each : (vs : List V) → AllByRecursion in_range vs → AllByRecursion hides_none vs → AllByRecursion (FitsBy payload) vs
      → ReadEach gives (map (frame_for field payload) vs) (map cut (map canon vs))
  back_each [] h none fit = tt
  back_each (v ∷ vs) h none fit = (holding.back v h.0 none.0 fit.0, back_each vs h.1 none.1 fit.1)

  -- what is written for values that fit and hide none decodes to their normal forms, after `cut`
  pub wire_written : (vs : List V) → AllByRecursion in_range vs → AllByRecursion hides_none vs → AllByRecursion (FitsBy payload) vs
      → Wire gives (written_by field payload vs) (map cut (map canon vs))
  wire_written vs h none fit =
      let xs = map (frame_for field payload) vs in
      record {
        frames = xs;
        string = record { frames = AreFrames-complete xs (complete_frames vs h fit); string = sym (bytes_of_frames-frames field payload vs) };
        values = back_each vs h none fit;
      }

  -- values and their normal forms are written in the same way
  pub written-canons : (vs : List V) → written_by field payload (map canon vs) ≡ written_by field payload vs
  written-canons [] = refl
  written-canons (v ∷ vs) =
      let one = holding.one_form v in
      ap₂ (λ x t. frame_bytes x ++ t) (ap₂ whole one.0 one.1) (written-canons vs)

  -- `cut` leaves uncut values and their normal forms unchanged
  pub uncut_each : (vs : List V) → AllByRecursion in_range vs → AllByRecursion uncut vs → (map cut vs ≡ vs) × (map cut (map canon vs) ≡ map canon vs)
  uncut_each [] h u = (refl, refl)
  uncut_each (v ∷ vs) h u =
      let one = holding.uncut_stays v h.0 u.0 in
      let later = uncut_each vs h.1 u.1 in
      (ap₂ (λ a b. a ∷ b) one.0 later.0, ap₂ (λ a b. a ∷ b) one.1 later.1)

  -- ---- plain values: in range, hiding none, and uncut

  -- what is written for plain values that fit decodes to their normal forms
  pub plain_wire : (vs : List V) → AllByRecursion in_range vs → AllByRecursion hides_none vs → AllByRecursion uncut vs → AllByRecursion (FitsBy payload) vs
      → Wire gives (written_by field payload vs) (map canon vs)
  plain_wire vs h none u fit = subst (Wire gives (written_by field payload vs)) (uncut_each vs h u).1 (wire_written vs h none fit)

  -- if written values decode to their normal forms, their bytes are equal if and only if these are equal
  pub same_bytes_iff : IsReading gives → (vs ws : List V) → Wire gives (written_by field payload vs) (map canon vs) → Wire gives (written_by field payload ws) (map canon ws)
      → (written_by field payload vs ≡ written_by field payload ws) ↔ (map canon vs ≡ map canon ws)
  same_bytes_iff reading vs ws a b = (
    λ e. one_values reading (written_by field payload ws) (map canon vs) (map canon ws) (subst (λ s. Wire gives s (map canon vs)) e a) b,
    λ e. sym (written-canons vs) ∙ ap (written_by field payload) e ∙ written-canons ws,
  )

  -- ---- decoded values

  -- decoded values are in range, hide none, and are their own normal forms
  pub record AreRead (vs : List V) : Type 0 where
    pub all_in : AllByRecursion in_range vs
    pub hide_none : AllByRecursion hides_none vs
    pub own : map canon vs ≡ vs

  -- the values of frames are in range, hide none, and are their own normal forms
  read_each : (xs : List Frame) (vs : List V) → AllByRecursion IsKnown xs → ReadEach gives xs vs → AreRead vs
  read_each [] [] k h = record { all_in = tt; hide_none = tt; own = refl }
  read_each [] (v ∷ vs) k h = absurd h
  read_each (x ∷ xs) [] k h = absurd h
  read_each (x ∷ xs) (v ∷ vs) k h =
      let later = read_each xs vs k.1 h.1 in
      record {
        all_in = (holding.read_in_range x.kind_field x.payload v k.0.kind_field k.0.bytes h.0, later.all_in);
        hide_none = (holding.read_hides_none x.kind_field x.payload v k.0.kind_field k.0.bytes h.0, later.hide_none);
        own = ap₂ (λ a b. a ∷ b) (holding.read_own x.kind_field x.payload v k.0.kind_field k.0.bytes h.0) later.own;
      }

  -- the values that bytes decode to are in range, hide none, and are their own normal forms
  pub are_read : (s : List ℕ) (vs : List V) → IsBytes s → Wire gives s vs → AreRead vs
  are_read s vs hs w = read_each w.frames vs (known_of s w.frames hs w.string) w.values

  -- what is written for decoded values that fit decodes to these values, after `cut`
  pub read_written : (s : List ℕ) (vs : List V) → IsBytes s → Wire gives s vs → AllByRecursion (FitsBy payload) vs → Wire gives (written_by field payload vs) (map cut vs)
  read_written s vs hs w fit =
      let all = are_read s vs hs w in
      subst (λ us. Wire gives (written_by field payload vs) (map cut us)) all.own (wire_written vs all.all_in all.hide_none fit)
