-- Re-encoding: what is written for decoded values.
use Rattle.std.proofs.Common.{◌≡◌, ◌↔◌, ℕ, ◌≤◌, List, [], ◌∷◌, ◌++◌, length, map, replicate, Ok, refl, sym, ap, ap₂, subst, ◌∙◌, arith, length-append}
use Rattle.std.specs.List.{AllByRecursion}
use Rattle.std.proofs.lemmas.List.{length-replicate}
use Rattle.link_base.specs.Number.{IsBytes}
use Rattle.link_base.specs.Frame.{Frame, Frames, IsComplete, AreFrames, frame_bytes, bytes_of_frames, gap, pad}
use Rattle.link_base.specs.Wire.{Reading, FrameGives, Wire, written_by, FitsBy, IsCanonicalFrame, CanonicalBy, RewritingBy}
use Rattle.link_base.specs.Lawful.{IsReading, IsHolding, IsWriting}
use Rattle.link_base.proofs.Cuts.{same_frame, one_cut_lem}
use Rattle.link_base.proofs.FrameBytes.{length-frame_bytes, length-complete}
use Rattle.link_base.proofs.Readings.{ReadEach, one_values}
use Rattle.link_base.proofs.Written.{AreFrames-complete, bytes_of_frames-append, IsKnown, known_of, all_each, all_append, frame_for, bytes_of_frames-frames, complete_frames, bytes-written, are_read, read_written}

-- ---- canonical lists

-- the frames of a canonical list
pub canonical_frames : {allows : ℕ → List ℕ → Type 0} (s : List ℕ) (c : CanonicalBy allows s) → Frames s c.frames
canonical_frames {allows} s c =
    record { frames = AreFrames-complete c.frames (all_each (IsCanonicalFrame allows) IsComplete (λ x h. h.complete) c.frames c.each); string = c.string }

-- the concatenation of two canonical lists is canonical
pub canonical_joined : {allows : ℕ → List ℕ → Type 0} (s t : List ℕ) → CanonicalBy allows s → CanonicalBy allows t → CanonicalBy allows (s ++ t)
canonical_joined {allows} s t c d = record {
  frames = c.frames ++ d.frames;
  string = ap₂ (λ a b. a ++ b) c.string d.string ∙ sym (bytes_of_frames-append c.frames d.frames);
  each = all_append (IsCanonicalFrame allows) c.frames d.frames c.each d.each;
}

module _ {V : Type 0} {gives : Reading V} {field : V → ℕ} {payload : V → List ℕ} {canon cut : V → V} {in_range hides_none uncut : V → Type 0}
    {allows : ℕ → List ℕ → Type 0} (reading : IsReading gives) (holding : IsHolding gives field payload canon cut in_range hides_none uncut)
    (writing : IsWriting gives field payload cut allows) where
  -- every value fits
  abbrev pub FitEach : List V → Type 0
  FitEach vs = AllByRecursion (FitsBy payload) vs

  -- what is written for values
  abbrev pub written : List V → List ℕ
  written vs = written_by field payload vs

  -- ---- if the rewriting equals the input, the input is canonical

  -- frames whose values are written unchanged are canonical
  canonical_each : (xs : List Frame) (vs : List V) → AllByRecursion IsKnown xs → ReadEach gives xs vs → xs ≡ map (frame_for field payload) vs → AllByRecursion (IsCanonicalFrame allows) xs
  canonical_each [] [] k h e = tt
  canonical_each [] (v ∷ vs) k h e = absurd h
  canonical_each (x ∷ xs) [] k h e = absurd h
  canonical_each (x ∷ xs) (v ∷ vs) k h e =
      let first : x ≡ frame_for field payload v = cc in
      let later : xs ≡ map (frame_for field payload) vs = cc in
      let hf : x.kind_field ≡ field v = ap (λ (y : Frame). y.kind_field) first in
      let hp : x.payload ≡ payload v = ap (λ (y : Frame). y.payload) first in
      let hz : x.padding ≡ replicate (gap x.payload) 0 = ap (λ (y : Frame). y.padding) first ∙ ap (λ p. replicate (gap p) 0) (sym hp) in
      let complete : IsComplete x = record { kind_field = k.0.kind_field; payload = k.0.payload; padding = ap length hz ∙ length-replicate (gap x.payload) 0 } in
      let allowed = writing.stays_allowed x.kind_field x.payload v k.0.kind_field k.0.bytes k.0.payload h.0 (sym hf, sym hp) in
      (record { complete = complete; zeros = hz; allowed = allowed }, canonical_each xs vs k.1 h.1 later)

  -- an input that is its own rewriting is canonical
  pub canonical_from_fixed : (s t : List ℕ) → IsBytes s → RewritingBy gives field payload s t → t ≡ s → CanonicalBy allows s
  canonical_from_fixed s t hs r e =
      let vs = r.values in
      let xs = r.wire.frames in
      let ws = map (frame_for field payload) vs in
      let complete = complete_frames holding vs (are_read holding s vs hs r.wire).all_in r.fit in
      let own : Frames s ws = record { frames = AreFrames-complete ws complete; string = sym e ∙ r.string ∙ sym (bytes_of_frames-frames field payload vs) } in
      let same : xs ≡ ws = one_cut_lem s xs ws r.wire.string own in
      record { frames = xs; string = r.wire.string.string; each = canonical_each xs vs (known_of s xs hs r.wire.string) r.wire.values same }

  -- ---- a canonical list is its own rewriting

  -- the value of a canonical frame is written unchanged, and fits
  frame_stays : (x : Frame) (v : V) → IsCanonicalFrame allows x → IsKnown x → FrameGives gives x (Ok v) → (frame_for field payload v ≡ x) × FitsBy payload v
  frame_stays x v h k hv =
      let same = writing.allowed_stays x.kind_field x.payload v k.kind_field k.bytes hv h.allowed in (
        same_frame (frame_for field payload v) x same.0 same.1 (ap (λ p. replicate (gap p) 0) same.1 ∙ sym h.zeros),
        subst (λ p. length p ≤ 65531) (sym same.1) k.payload,
      )

  -- the values of canonical frames are written unchanged, and fit
  stays_each : (xs : List Frame) (vs : List V) → AllByRecursion (IsCanonicalFrame allows) xs → AllByRecursion IsKnown xs → ReadEach gives xs vs
      → (written vs ≡ bytes_of_frames xs) × FitEach vs
  stays_each [] [] h k hv = (refl, tt)
  stays_each [] (v ∷ vs) h k hv = absurd hv
  stays_each (x ∷ xs) [] h k hv = absurd hv
  stays_each (x ∷ xs) (v ∷ vs) h k hv =
      let first = frame_stays x v h.0 k.0 hv.0 in
      let later = stays_each xs vs h.1 k.1 hv.1 in
      (ap₂ (λ a b. frame_bytes a ++ b) first.0 later.0, (first.1, later.1))

  -- the values of a canonical list are written unchanged, and fit
  pub canonical_stays : (s : List ℕ) (vs : List V) → IsBytes s → CanonicalBy allows s → Wire gives s vs → (written vs ≡ s) × FitEach vs
  canonical_stays s vs hs c w =
      let xs = c.frames in
      let whole = canonical_frames s c in
      let same : w.frames ≡ xs = one_cut_lem s w.frames xs w.string whole in
      let all = stays_each xs vs c.each (known_of s xs hs whole) (subst (λ ys. ReadEach gives ys vs) same w.values) in
      (all.0 ∙ sym c.string, all.1)

  -- canonical frames decode to values
  values_each : (xs : List Frame) → AllByRecursion (IsCanonicalFrame allows) xs → AllByRecursion IsKnown xs → (vs : List V) × ReadEach gives xs vs
  values_each [] h k = ([], tt)
  values_each (x ∷ xs) h k =
      let first = writing.allowed_reads x.kind_field x.payload k.0.kind_field k.0.bytes h.0.allowed in
      let later = values_each xs h.1 k.1 in
      (first.0 ∷ later.0, (first.1, later.1))

  -- every canonical list of bytes decodes
  pub canonical_reads : (s : List ℕ) → IsBytes s → CanonicalBy allows s → (vs : List V) × Wire gives s vs
  canonical_reads s hs c =
      let whole = canonical_frames s c in
      let all = values_each c.frames c.each (known_of s c.frames hs whole) in
      (all.0, record { frames = c.frames; string = whole; values = all.1 })

  -- the rewriting equals the input if and only if the input is canonical
  pub fixed_iff_canonical : (s t : List ℕ) → IsBytes s → RewritingBy gives field payload s t → (t ≡ s) ↔ CanonicalBy allows s
  fixed_iff_canonical s t hs r = (λ e. canonical_from_fixed s t hs r e, λ c. r.string ∙ (canonical_stays s r.values hs c r.wire).0)

  -- a canonical list is its own rewriting
  pub canonical_rewriting : (s : List ℕ) → IsBytes s → CanonicalBy allows s → RewritingBy gives field payload s s
  canonical_rewriting s hs c =
      let all = canonical_reads s hs c in
      let stays = canonical_stays s all.0 hs c all.1 in
      record { values = all.0; wire = all.1; fit = stays.1; string = sym stays.0 }

  -- two canonical lists with equal values are equal
  pub canonical_once : (s t : List ℕ) (vs : List V) → IsBytes s → IsBytes t → CanonicalBy allows s → CanonicalBy allows t → Wire gives s vs → Wire gives t vs → s ≡ t
  canonical_once s t vs hs ht c d w u = sym (canonical_stays s vs hs c w).0 ∙ (canonical_stays t vs ht d u).0

  -- ---- a rewriting is no longer than the input, padded

  -- what is written for decoded values is no longer than their frames, padded
  length-written : (xs : List Frame) (vs : List V) → AreFrames xs → AllByRecursion IsKnown xs → ReadEach gives xs vs → AllByRecursion IsComplete (map (frame_for field payload) vs)
      → length (written vs) ≤ pad (length (bytes_of_frames xs))
  length-written [] [] hx k hv done = omega arith
  length-written [] (v ∷ vs) hx k hv done = absurd hv
  length-written (x ∷ xs) [] hx k hv done = absurd hv
  length-written (x ∷ []) (v ∷ []) hx k hv done =
      let bound = writing.length_bound x.kind_field x.payload v k.0.kind_field k.0.bytes hv.0 in
      let len = length-complete (frame_for field payload v) done.0 in
      omega (arith, length-append (frame_bytes (frame_for field payload v)) [], length-append (frame_bytes x) [], length-frame_bytes x)
  length-written (x ∷ []) (v ∷ w ∷ vs) hx k hv done = absurd hv.1
  length-written (x ∷ y ∷ xs) (v ∷ []) hx k hv done = absurd hv.1
  length-written (x ∷ y ∷ xs) (v ∷ w ∷ vs) hx k hv done =
      let bound = writing.length_bound x.kind_field x.payload v k.0.kind_field k.0.bytes hv.0 in
      let len = length-complete (frame_for field payload v) done.0 in
      let own = length-complete x hx.0 in
      let rest = length-written (y ∷ xs) (w ∷ vs) hx.1 k.1 hv.1 done.1 in
      omega (arith, length-append (frame_bytes (frame_for field payload v)) (written (w ∷ vs)), length-append (frame_bytes x) (bytes_of_frames (y ∷ xs)))

  -- a rewriting is no longer than the input, padded
  pub never_longer : (s t : List ℕ) → IsBytes s → RewritingBy gives field payload s t → length t ≤ pad (length s)
  never_longer s t hs r =
      let xs = r.wire.frames in
      let done = complete_frames holding r.values (are_read holding s r.values hs r.wire).all_in r.fit in
      let len = length-written xs r.values r.wire.string.frames (known_of s xs hs r.wire.string) r.wire.values done in
      omega (arith, ap length r.string, ap length r.wire.string.string)

  -- ---- the rewriting of a rewriting

  -- a rewriting consists of bytes
  pub rewriting_bytes : (s t : List ℕ) → IsBytes s → RewritingBy gives field payload s t → IsBytes t
  rewriting_bytes s t hs r = subst IsBytes (sym r.string) (bytes-written holding r.values (are_read holding s r.values hs r.wire).all_in)

  -- a rewriting decodes to the values of the input, after `cut`
  pub reads_back : (s t : List ℕ) → IsBytes s → (r : RewritingBy gives field payload s t) → Wire gives t (map cut r.values)
  reads_back s t hs r = subst (λ u. Wire gives u (map cut r.values)) (sym r.string) (read_written holding s r.values hs r.wire r.fit)

  -- values that, after `cut`, fit, are allowed, and are unchanged by a second `cut`
  pub record AreCut (vs : List V) : Type 0 where
    pub fit : FitEach (map cut vs)
    pub once : map cut (map cut vs) ≡ map cut vs
    pub allowed : AllByRecursion (λ v. allows (field v) (payload v)) (map cut vs)

  -- each decoded value is such a value
  cut_each : (xs : List Frame) (vs : List V) → AllByRecursion IsKnown xs → ReadEach gives xs vs → FitEach vs → AreCut vs
  cut_each [] [] k h fit = record { fit = tt; once = refl; allowed = tt }
  cut_each [] (v ∷ vs) k h fit = absurd h
  cut_each (x ∷ xs) [] k h fit = absurd h
  cut_each (x ∷ xs) (v ∷ vs) k h fit =
      let later = cut_each xs vs k.1 h.1 fit.1 in
      record {
        fit = (writing.cut_fits x.kind_field x.payload v k.0.kind_field k.0.bytes h.0 fit.0, later.fit);
        once = ap₂ (λ a b. a ∷ b) (writing.cut_once x.kind_field x.payload v k.0.kind_field k.0.bytes h.0 fit.0) later.once;
        allowed = (writing.cut_allowed x.kind_field x.payload v k.0.kind_field k.0.bytes h.0 fit.0, later.allowed);
      }

  -- the values of an input that has a rewriting are such values
  pub are_cut : (s t : List ℕ) → IsBytes s → (r : RewritingBy gives field payload s t) → AreCut r.values
  are_cut s t hs r = cut_each r.wire.frames r.values (known_of s r.wire.frames hs r.wire.string) r.wire.values r.fit

  -- a rewriting has a rewriting: what is written for the values after `cut`
  pub second : (s t : List ℕ) → IsBytes s → (r : RewritingBy gives field payload s t) → RewritingBy gives field payload t (written (map cut r.values))
  second s t hs r = record { values = map cut r.values; wire = reads_back s t hs r; fit = (are_cut s t hs r).fit; string = refl }

  -- frames that are complete and allowed are canonical
  canonical_frames_of : (vs : List V) → AllByRecursion IsComplete (map (frame_for field payload) vs) → AllByRecursion (λ v. allows (field v) (payload v)) vs
      → AllByRecursion (IsCanonicalFrame allows) (map (frame_for field payload) vs)
  canonical_frames_of [] done h = tt
  canonical_frames_of (v ∷ vs) done h = (record { complete = done.0; zeros = refl; allowed = h.0 }, canonical_frames_of vs done.1 h.1)

  -- the rewriting of a rewriting is canonical
  pub second_canonical : (s t : List ℕ) → IsBytes s → (r : RewritingBy gives field payload s t) → CanonicalBy allows (written (map cut r.values))
  second_canonical s t hs r =
      let vs = map cut r.values in
      let known = are_cut s t hs r in
      let done = complete_frames holding vs (are_read holding t vs (rewriting_bytes s t hs r) (reads_back s t hs r)).all_in known.fit in
      record { frames = map (frame_for field payload) vs; string = sym (bytes_of_frames-frames field payload vs); each = canonical_frames_of vs done known.allowed }

  -- the rewriting of a rewriting is its own rewriting
  pub third : (s t : List ℕ) → IsBytes s → (r : RewritingBy gives field payload s t)
      → RewritingBy gives field payload (written (map cut r.values)) (written (map cut r.values))
  third s t hs r =
      let ht = rewriting_bytes s t hs r in
      canonical_rewriting _ (rewriting_bytes t _ ht (second s t hs r)) (second_canonical s t hs r)

  -- ---- uniqueness

  -- an input has at most one rewriting
  pub one_rewriting : (s t u : List ℕ) → RewritingBy gives field payload s t → RewritingBy gives field payload s u → t ≡ u
  one_rewriting s t u r q = r.string ∙ ap written (one_values reading s r.values q.values r.wire q.wire) ∙ sym q.string

  -- the rewriting of a rewriting is what is written for the values after `cut`
  pub second_is : (s t u : List ℕ) → IsBytes s → (r : RewritingBy gives field payload s t) → RewritingBy gives field payload t u → u ≡ written (map cut r.values)
  second_is s t u hs r q = one_rewriting t u (written (map cut r.values)) q (second s t hs r)

  -- the rewriting of a rewriting is its own rewriting
  pub second_own : (s t u : List ℕ) → IsBytes s → RewritingBy gives field payload s t → RewritingBy gives field payload t u → RewritingBy gives field payload u u
  second_own s t u hs r q = subst (λ w. RewritingBy gives field payload w w) (sym (second_is s t u hs r q)) (third s t hs r)

  -- ---- inputs with equal values

  -- what is written for values after `cut` decodes to these values
  cut_wire : (s t : List ℕ) → IsBytes s → (r : RewritingBy gives field payload s t) → Wire gives (written (map cut r.values)) (map cut r.values)
  cut_wire s t hs r =
      let known = are_cut s t hs r in
      subst (Wire gives (written (map cut r.values))) known.once
      (read_written holding t (map cut r.values) (rewriting_bytes s t hs r) (reads_back s t hs r) known.fit)

  -- after two passes, two inputs give the same list if and only if their values are equal after `cut`
  pub second_equal : (s t u s2 t2 u2 : List ℕ) → IsBytes s → IsBytes s2
      → (r : RewritingBy gives field payload s t) → RewritingBy gives field payload t u
      → (q : RewritingBy gives field payload s2 t2) → RewritingBy gives field payload t2 u2
      → (u ≡ u2) ↔ (map cut r.values ≡ map cut q.values)
  second_equal s t u s2 t2 u2 hs hs2 r r2 q q2 =
      let is = second_is s t u hs r r2 in
      let is2 = second_is s2 t2 u2 hs2 q q2 in (
        λ e. one_values reading (written (map cut q.values)) _ _
            (subst (λ w. Wire gives w (map cut r.values)) (sym is ∙ e ∙ is2) (cut_wire s t hs r)) (cut_wire s2 t2 hs2 q),
        λ e. is ∙ ap written e ∙ sym is2,
      )
