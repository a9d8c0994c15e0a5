-- Every list of bytes decodes to values or has a first error, never both, and either is unique.
use Rattle.std.proofs.Common.{◌≡◌, ℕ, zero, suc, ◌+◌, ◌<◌, ◌≤◌, List, [], ◌∷◌, ◌++◌, length, Option, Some, None, Result, Ok, Err, refl, sym, ap, ap₂, subst, ◌∙◌, arith, inl, inr, ⊎_elim, append_assoc, length-append}
use Rattle.std.specs.List.{AllZip, AllByRecursion}
use Rattle.std.proofs.lemmas.List.{nil_from_length}
use Rattle.link_base.specs.Number.{IsBytes}
use Rattle.link_base.specs.declared.wire.fault.Cause.{Cause}
use Rattle.link_base.specs.declared.wire.fault.DecodeFault.{DecodeFault}
use Rattle.link_base.specs.declared.wire.fault.DecodeFault.TheVariants as faults
use Rattle.link_base.specs.Frame.{Frame, IsFrame, IsComplete, AreFrames, frame_bytes, bytes_of_frames, frame_fault}
use Rattle.link_base.specs.Wire.{Reading, FrameGives, Wire, FirstFault, FaultsHere, Reads}
use Rattle.link_base.specs.Lawful.{IsReading}
use Rattle.link_base.proofs.Cuts.{IsFrame-complete, SameFront-frames, AreFrames-head, same_gap, same_parts, one_cut_lem}
use Rattle.link_base.proofs.FrameBytes.{Front, Front-no_fault, frame_fault-frame, length-frame_bytes, bytes-payload, bytes-rest}

-- ---- results

-- a decoded value
abbrev pub ok : {V : Type 0} → V → Result V DecodeFault
ok v = Ok v

-- a payload that has an error
abbrev pub failed : {V : Type 0} → DecodeFault → Result V DecodeFault
failed fault = Err fault

-- results that are equal have equal values
pub same_ok : {V : Type 0} (v w : V) → ok v ≡ ok w → v ≡ w
same_ok v w e = cc

-- results that are equal have equal errors
pub same_failed : {V : Type 0} (a b : DecodeFault) → failed {V = V} a ≡ failed {V = V} b → a ≡ b
same_failed a b e = cc

-- no result is both a value and an error
pub ok_not_failed : {V : Type 0} (v : V) (fault : DecodeFault) → ok v ≡ failed fault → ⊥
ok_not_failed v fault e = absurd cc

-- ---- frames

-- a complete frame, then frames
pub AreFrames-cons : (x : Frame) (xs : List Frame) → IsComplete x → AreFrames xs → AreFrames (x ∷ xs)
AreFrames-cons x [] h k = IsFrame-complete x h
AreFrames-cons x (y ∷ xs) h k = (h, k)

-- what follows a first frame that is complete
pub record NextFrames (x : Frame) (xs : List Frame) (y : Frame) (t : List ℕ) : Type 0 where
  pub rest : bytes_of_frames xs ≡ t
  pub frames : AreFrames xs

-- a list of frames that starts with a complete frame and has more bytes
pub NextFrames-more : (x : Frame) (xs : List Frame) (y : Frame) (t : List ℕ) → AreFrames (x ∷ xs) → IsComplete y → 0 < length t
    → frame_bytes x ++ bytes_of_frames xs ≡ frame_bytes y ++ t → NextFrames x xs y t
NextFrames-more x [] y t hx hy some e =
    let same = SameFront-frames x y [] t hx (IsFrame-complete y hy) e in
    let g = same_gap x y same.payload in
    absurd (omega (arith, ap length same.rest, length-append x.padding [], length-append y.padding t, hx.padding, hy.padding))
NextFrames-more x (x2 ∷ xs) y t hx hy some e =
    let same = SameFront-frames x y (bytes_of_frames (x2 ∷ xs)) t (IsFrame-complete x hx.0) (IsFrame-complete y hy) e in
    let g = same_gap x y same.payload in
    let parts = same_parts x.padding (bytes_of_frames (x2 ∷ xs)) y.padding t (omega (arith, hx.0.padding, hy.padding)) same.rest in
    record { rest = parts.1; frames = hx.1 }

-- the frames decode to the values, one by one
abbrev pub ReadEach : {V : Type 0} → Reading V → List Frame → List V → Type 0
ReadEach gives xs vs = AllZip (λ x v. FrameGives gives x (Ok v)) xs vs

-- each frame decodes to a value
abbrev pub HaveValues : {V : Type 0} → Reading V → List Frame → Type 0
HaveValues {V} gives xs = AllByRecursion (λ x. (v : V) × FrameGives gives x (Ok v)) xs

module _ {V : Type 0} {gives : Reading V} (laws : IsReading gives) where
  -- frames at the start of equal bytes have the same result
  same_here : (x y : Frame) (s t : List ℕ) (a b : Result V DecodeFault) → IsFrame x → IsFrame y → frame_bytes x ++ s ≡ frame_bytes y ++ t
      → FrameGives gives x a → FrameGives gives y b → a ≡ b
  same_here x y s t a b hx hy e ha hb =
      let same = SameFront-frames x y s t hx hy e in
      laws.one y.kind_field y.payload a b (subst (λ p. gives y.kind_field p a) same.payload (subst (λ f. gives f x.payload a) same.kind_field ha)) hb

  -- bytes that start with an error do not start with a frame that decodes to a value
  pub no_fault_here : (x : Frame) (t : List ℕ) (v : V) (rest : List ℕ) (fault : DecodeFault) → IsFrame x → FrameGives gives x (Ok v)
      → frame_bytes x ++ t ≡ rest → FaultsHere gives rest fault → ⊥
  no_fault_here x t v rest fault hx hv e (inl h) =
      let none : frame_fault rest ≡ None = ap frame_fault (sym e) ∙ frame_fault-frame x t hx in
      let some = h.1 in
      absurd cc
  no_fault_here x t v rest fault hx hv e (inr h) =
      ok_not_failed v fault (same_here x h.0 t h.1.rest (Ok v) (Err fault) hx h.1.is (e ∙ h.1.string) hv h.2)

  -- frames that decode to values are not frames followed by an error
  exclusive : (xs front : List Frame) (vs : List V) (rest : List ℕ) (fault : DecodeFault) → AreFrames xs → ReadEach gives xs vs
      → AllByRecursion IsComplete front → 0 < length rest → FaultsHere gives rest fault → bytes_of_frames xs ≡ bytes_of_frames front ++ rest → ⊥
  exclusive [] front vs rest fault hx hv hy some here e = omega (arith, ap length e, length-append (bytes_of_frames front) rest)
  exclusive (x ∷ xs) front [] rest fault hx hv hy some here e = hv
  exclusive (x ∷ xs) [] (v ∷ vs) rest fault hx hv hy some here e = no_fault_here x (bytes_of_frames xs) v rest fault (AreFrames-head x xs hx) hv.0 e here
  exclusive (x ∷ xs) (y ∷ front) (v ∷ vs) rest fault hx hv hy some here e =
      let t = bytes_of_frames front ++ rest in
      let next = NextFrames-more x xs y t hx hy.0 (omega (arith, length-append (bytes_of_frames front) rest)) (e ∙ append_assoc (frame_bytes y) (bytes_of_frames front) rest) in
      exclusive xs front vs rest fault next.frames hv.1 hy.1 some here next.rest

  -- bytes do not both decode to values and have a first error
  pub not_both : (s : List ℕ) (vs : List V) (at : ℕ) (fault : DecodeFault) → Wire gives s vs → FirstFault gives s at fault → ⊥
  not_both s vs at fault w h =
      exclusive w.frames h.front vs h.rest fault w.string.frames w.values h.complete h.some h.here (sym w.string.string ∙ h.string)

  -- ---- every list of bytes has a result

  -- the bytes have a result
  abbrev pub Readable : List ℕ → Type 0
  Readable s = (q : Result (List V) (ℕ × DecodeFault)) × Reads gives s q

  -- an error at the start
  fault_here : (s : List ℕ) (fault : DecodeFault) → 0 < length s → FaultsHere gives s fault → Readable s
  fault_here s fault some here = (
    Err (0, fault),
    record {
      front = [];
      rest = s;
      string = refl;
      complete = tt;
      values = tt;
      some = some;
      offset = refl;
      here = here;
    },
  )

  -- a frame that decodes to a value, with nothing after it
  last_value : (s : List ℕ) (x : Frame) (v : V) → s ≡ frame_bytes x ++ [] → IsFrame x → FrameGives gives x (Ok v) → Readable s
  last_value s x v e hx hv = (Ok (v ∷ []), record { frames = x ∷ []; string = record { frames = hx; string = e }; values = (hv, tt) })

  -- a complete frame that decodes to a value, then bytes that have a result
  more_values : (s t : List ℕ) (x : Frame) (v : V) → s ≡ frame_bytes x ++ t → IsComplete x → FrameGives gives x (Ok v)
      → (q : Result (List V) (ℕ × DecodeFault)) → Reads gives t q → Readable s
  more_values s t x v e hx hv (Ok vs) w = (
    Ok (v ∷ vs),
    record {
      frames = x ∷ w.frames;
      string = record { frames = AreFrames-cons x w.frames hx w.string.frames; string = e ∙ ap (λ r. frame_bytes x ++ r) w.string.string };
      values = (hv, w.values);
    },
  )
  more_values s t x v e hx hv (Err h) later = (
    Err (length (frame_bytes x) + h.0, h.1),
    record {
      front = x ∷ later.front;
      rest = later.rest;
      string = e ∙ ap (λ r. frame_bytes x ++ r) later.string ∙ sym (append_assoc (frame_bytes x) (bytes_of_frames later.front) later.rest);
      complete = (hx, later.complete);
      values = ((v, hv), later.values);
      some = later.some;
      offset = omega (arith, later.offset, length-append (frame_bytes x) (bytes_of_frames later.front));
      here = later.here;
    },
  )

  -- bytes have a result if all shorter ones do
  some_step : (s : List ℕ) → 0 < length s → IsBytes s → ((t : List ℕ) → length t < length s → IsBytes t → Readable t) → Readable s
  some_step s some h again = by_fault (frame_fault s) refl
    where
      -- by the result of the first frame
      by_value : (front : Front s) (r : Result V DecodeFault) → FrameGives gives front.frame r → Readable s
      by_value front (Err c) hr = fault_here s c some (inr (front.frame, record { rest = front.rest; is = front.is; string = front.string }, hr))
      by_value front (Ok v) hr = ⊎_elim
          (λ (none : length front.rest ≡ 0).
          last_value s front.frame v (front.string ∙ ap (λ r. frame_bytes front.frame ++ r) (nil_from_length front.rest none)) front.is hr)
          (λ (complete : IsComplete front.frame).
          let later = again front.rest (omega (arith, ap length front.string, length-append (frame_bytes front.frame) front.rest))
          (bytes-rest front.frame front.rest (subst IsBytes front.string h)) in
          more_values s front.rest front.frame v front.string complete hr later.0 later.1)
          front.last

      -- by whether the bytes start with a frame
      by_fault : (o : Option Cause) → frame_fault s ≡ o → Readable s
      by_fault (Some c) e = fault_here s (faults.Frame c) some (inl (c, e, refl))
      by_fault None e =
          let front = Front-no_fault s h e in
          let x = front.frame in
          let read = laws.decided x.kind_field x.payload front.is.kind_field (bytes-payload x front.rest (subst IsBytes front.string h)) in
          by_value front read.0 read.1

  -- all bytes have a result, by their length
  some_within : (fuel : ℕ) (s : List ℕ) → length s ≤ fuel → IsBytes s → Readable s
  some_within fuel [] le h = (Ok [], record { frames = []; string = record { frames = tt; string = refl }; values = tt })
  some_within zero (b ∷ s) le h = absurd (omega arith)
  some_within (suc fuel) (b ∷ s) le h = some_step (b ∷ s) (omega arith) h (λ t less k. some_within fuel t (omega arith) k)

  -- every list of bytes decodes to its values or has a first error
  pub reads_some : (s : List ℕ) → IsBytes s → (q : Result (List V) (ℕ × DecodeFault)) × Reads gives s q
  reads_some s h = some_within (length s) s (omega arith) h

  -- ---- the result is unique

  -- frames decode to one list of values
  same_values : (xs : List Frame) (vs ws : List V) → ReadEach gives xs vs → ReadEach gives xs ws → vs ≡ ws
  same_values [] [] [] hv hw = refl
  same_values [] [] (w ∷ ws) hv hw = absurd hw
  same_values [] (v ∷ vs) ws hv hw = absurd hv
  same_values (x ∷ xs) [] ws hv hw = absurd hv
  same_values (x ∷ xs) (v ∷ vs) [] hv hw = absurd hw
  same_values (x ∷ xs) (v ∷ vs) (w ∷ ws) hv hw =
      ap₂ (λ a b. a ∷ b) (same_ok v w (laws.one x.kind_field x.payload (Ok v) (Ok w) hv.0 hw.0)) (same_values xs vs ws hv.1 hw.1)

  -- bytes decode to one list of values
  pub one_values : (s : List ℕ) (vs ws : List V) → Wire gives s vs → Wire gives s ws → vs ≡ ws
  one_values s vs ws v w =
      same_values v.frames vs ws v.values
      (subst (λ xs. ReadEach gives xs ws) (one_cut_lem s w.frames v.frames w.string v.string) w.values)

  -- a malformed header has one cause
  same_cause : (c d : Cause) → Some c ≡ Some d → c ≡ d
  same_cause c d e = cc

  -- bytes start with one error
  pub one_here : (r : List ℕ) (a b : DecodeFault) → FaultsHere gives r a → FaultsHere gives r b → a ≡ b
  one_here r a b (inl h) (inl k) = h.2 ∙ ap faults.Frame (same_cause h.0 k.0 (sym h.1 ∙ k.1)) ∙ sym k.2
  one_here r a b (inl h) (inr k) =
      let none : frame_fault r ≡ None = ap frame_fault k.1.string ∙ frame_fault-frame k.0 k.1.rest k.1.is in
      let some = h.1 in
      absurd cc
  one_here r a b (inr h) (inl k) =
      let none : frame_fault r ≡ None = ap frame_fault h.1.string ∙ frame_fault-frame h.0 h.1.rest h.1.is in
      let some = k.1 in
      absurd cc
  one_here r a b (inr h) (inr k) = same_failed a b (same_here h.0 k.0 h.1.rest k.1.rest (Err a) (Err b) h.1.is k.1.is (sym h.1.string ∙ k.1.string) h.2 k.2)

  -- complete frames that decode to values, then an error: the error and its offset are unique
  one_first_by : (xs ys : List Frame) (r t : List ℕ) (a b : DecodeFault) → AllByRecursion IsComplete xs → AllByRecursion IsComplete ys
      → HaveValues gives xs → HaveValues gives ys → FaultsHere gives r a → FaultsHere gives t b
      → bytes_of_frames xs ++ r ≡ bytes_of_frames ys ++ t → (length (bytes_of_frames xs) ≡ length (bytes_of_frames ys)) × (a ≡ b)
  one_first_by [] [] r t a b hx hy vx vy ha hb e = (refl, one_here r a b ha (subst (λ s. FaultsHere gives s b) (sym e) hb))
  one_first_by [] (y ∷ ys) r t a b hx hy vx vy ha hb e =
      absurd (no_fault_here y (bytes_of_frames ys ++ t) vy.0.0 r a (IsFrame-complete y hy.0) vy.0.1 (sym (e ∙ append_assoc (frame_bytes y) (bytes_of_frames ys) t)) ha)
  one_first_by (x ∷ xs) [] r t a b hx hy vx vy ha hb e =
      absurd (no_fault_here x (bytes_of_frames xs ++ r) vx.0.0 t b (IsFrame-complete x hx.0) vx.0.1 (sym (sym e ∙ append_assoc (frame_bytes x) (bytes_of_frames xs) r)) hb)
  one_first_by (x ∷ xs) (y ∷ ys) r t a b hx hy vx vy ha hb e =
      let s1 = bytes_of_frames xs ++ r in
      let s2 = bytes_of_frames ys ++ t in
      let same = SameFront-frames x y s1 s2 (IsFrame-complete x hx.0) (IsFrame-complete y hy.0)
      (sym (append_assoc (frame_bytes x) (bytes_of_frames xs) r) ∙ e ∙ append_assoc (frame_bytes y) (bytes_of_frames ys) t) in
      let g = same_gap x y same.payload in
      let parts = same_parts x.padding s1 y.padding s2 (omega (arith, hx.0.padding, hy.0.padding)) same.rest in
      let rest = one_first_by xs ys r t a b hx.1 hy.1 vx.1 vy.1 ha hb parts.1 in (
        omega (
          arith,
          rest.0,
          length-append (frame_bytes x) (bytes_of_frames xs),
          length-append (frame_bytes y) (bytes_of_frames ys),
          length-frame_bytes x,
          length-frame_bytes y,
          ap length same.payload,
          ap length parts.0,
        ),
        rest.1,
      )

  -- bytes have one first error
  one_first : (s : List ℕ) (i j : ℕ) (a b : DecodeFault) → FirstFault gives s i a → FirstFault gives s j b → (i ≡ j) × (a ≡ b)
  one_first s i j a b h k =
      let same = one_first_by h.front k.front h.rest k.rest a b h.complete k.complete h.values k.values h.here k.here (sym h.string ∙ k.string) in
      (h.offset ∙ same.0 ∙ sym k.offset, same.1)

  -- bytes have one result
  pub reads_one : (s : List ℕ) (q r : Result (List V) (ℕ × DecodeFault)) → Reads gives s q → Reads gives s r → q ≡ r
  reads_one s (Ok vs) (Ok ws) a b = let e = one_values s vs ws a b in λ i. Ok (e i)
  reads_one s (Ok vs) (Err h) a b = absurd (not_both s vs h.0 h.1 a b)
  reads_one s (Err h) (Ok vs) a b = absurd (not_both s vs h.0 h.1 b a)
  reads_one s (Err h) (Err k) a b = let e = one_first s h.0 k.0 h.1 k.1 a b in λ i. Err (e.0 i, e.1 i)
