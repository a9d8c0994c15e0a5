-- Decoding the frames of a table one at a time.
use Rattle.std.proofs.Common.{◌≡◌, ℕ, false, true, ◌+◌, ◌<◌, ◌≤◌, List, [], ◌∷◌, ◌++◌, length, drop, get_or, Option, Some, None, Result, Ok, Err, refl, sym, ap, subst, ◌∙◌, arith, inl, inr, append_assoc}
use Rattle.std.specs.List.{AllByRecursion, AllZip}
use Rattle.std.proofs.lemmas.Bool.{cases_lt}
use Rattle.std.proofs.lemmas.List.{append-nil, length-append}
use Rattle.std.proofs.lemmas.Grind.{flat_map-append}
use Rattle.std.proofs.Math.Seq.{drop-append_seam}
use Rattle.link_base.specs.declared.wire.fault.Cause.{Cause}
use Rattle.link_base.specs.declared.wire.fault.DecodeFault.{DecodeFault}
use Rattle.link_base.specs.declared.wire.fault.DecodeFault.TheVariants as faults
use Rattle.link_base.specs.declared.wire.fault.DecodeError.{DecodeError}
use Rattle.link_base.specs.declared.wire.fault.DecodeError.TheVariants as errors
use Rattle.link_base.specs.Frame.{Frame, BeginsWith, bare, IsComplete, AreFrames, frame_bytes, bytes_of_frames, frame_fault}
use Rattle.link_base.specs.FrameOffsets.{starts, FramesOrFault, Finds}
use Rattle.link_base.specs.Wire.{Reading, Wire, FirstFault, FrameGives}
use Rattle.link_base.specs.Answers.{Fails, ListFails, ListAnswers, ListFaultUnless, OnListMemory, list_error}
use Rattle.link_base.specs.Table.{Table, AttrValue, Gives, Decodes}
use Rattle.link_base.specs.Lawful.{IsReading}
use Rattle.link_base.specs.declared.wire.fault.ListError.{ListError}
use Rattle.link_base.specs.declared.wire.fault.ListError.TheVariants as list_errors
use Rattle.link_base.proofs.Cuts.{AreFrames-head, SameFront-frames}
use Rattle.link_base.proofs.FrameBytes.{frame_fault-frame}
use Rattle.link_base.proofs.Walking.{cut_of, length-starts}
use Rattle.link_base.proofs.Readings.{not_both}

-- a fact that holds in any case also holds if the call fails with `Memory`
pub on_list_memory : {X : Type 0} (r : Result X ListError) (P : Type 0) → P → OnListMemory r P
on_list_memory (Ok x) P p = tt
on_list_memory (Err (list_errors.Fault at c)) P p = tt
on_list_memory (Err (list_errors.Memory e)) P p = p

-- a call fails with `Fault` if and only if s does not decode
pub fault_unless : {X : Type 0} (table : Table) → IsReading (Gives table) → (view : X → List AttrValue) (s : List ℕ) (r : Result X ListError) → ListAnswers view r (Gives table) s → ListFaultUnless r (Decodes table s)
fault_unless table law view s (Ok x) w = record { values = view x; wire = w }
fault_unless table law view s (Err (list_errors.Fault at c)) first = λ d. not_both law s d.values at c d.wire first
fault_unless table law view s (Err (list_errors.Memory e)) any = tt

-- ---- frames, and the frames before them

bytes_of_frames-append : (xs ys : List Frame) → bytes_of_frames (xs ++ ys) ≡ bytes_of_frames xs ++ bytes_of_frames ys
bytes_of_frames-append xs ys = flat_map-append frame_bytes xs ys

-- the offset of the frame that follows some others
starts-at : (at : ℕ) (xs : List Frame) (y : Frame) (ys : List Frame) → get_or (starts at (xs ++ y ∷ ys)) (length xs) 0 ≡ at + length (bytes_of_frames xs)
starts-at at [] y ys = omega arith
starts-at at (x ∷ xs) y ys = starts-at (at + length (frame_bytes x)) xs y ys ∙ omega (arith, length-append (frame_bytes x) (bytes_of_frames xs))

-- frames that precede others are complete
complete_before : (xs : List Frame) (y : Frame) (ys : List Frame) → AreFrames (xs ++ y ∷ ys) → AllByRecursion IsComplete xs
complete_before [] y ys h = tt
complete_before (x ∷ []) y ys h = (h.0, tt)
complete_before (x ∷ z ∷ xs) y ys h = (h.0, complete_before (z ∷ xs) y ys h.1)

-- frames that follow others are frames
frames_behind : (xs : List Frame) (y : Frame) (ys : List Frame) → AreFrames (xs ++ y ∷ ys) → AreFrames (y ∷ ys)
frames_behind [] y ys h = h
frames_behind (x ∷ []) y ys h = h.1
frames_behind (x ∷ z ∷ xs) y ys h = frames_behind (z ∷ xs) y ys h.1

-- bytes in which a frame is found start with one
pub first_frame : (s offsets : List ℕ) (fault : Option (ℕ × Cause)) → Finds s offsets fault → 0 < length offsets → frame_fault s ≡ None
first_frame s offsets fault found some = by_frames found.frames (cut_of s found.frames fault found.all) (omega (arith, some, ap length found.places, length-starts 0 found.frames))
  where
    by_frames : (xs : List Frame) → (rest : List ℕ) × AreFrames xs × (s ≡ bytes_of_frames xs ++ rest) → 0 < length xs → frame_fault s ≡ None
    by_frames [] h lt = absurd (omega (arith, lt))
    by_frames (x ∷ xs) (rest, frames, string) lt = ap frame_fault (string ∙ append_assoc (frame_bytes x) (bytes_of_frames xs) rest) ∙ frame_fault-frame x (bytes_of_frames xs ++ rest) (AreFrames-head x xs frames)

-- if the allocation for n offsets can fail, n is not 0, and the bytes start with a frame
pub first_frame-room : (s offsets : List ℕ) (fault : Option (ℕ × Cause)) (n : ℕ) → Finds s offsets fault → n ≡ length offsets → (n ≡ 0 → false ≡ true) → frame_fault s ≡ None
first_frame-room s offsets fault n found same refused = elim (cases_lt 0 (length offsets)) [
  | inl some ↦ first_frame s offsets fault found some
  | inr none ↦ absurd (never (refused (omega (arith, same, none))))
]
  where
    never : false ≡ true → ⊥
    never e = absurd cc

-- ---- values, one at a time

pub all_zip-push : {A B : Type 0} (P : A → B → Type 0) (xs : List A) (ys : List B) (x : A) (y : B) → AllZip P xs ys → P x y → AllZip P (xs ++ x ∷ []) (ys ++ y ∷ [])
all_zip-push P [] [] x y h p = (p, tt)
all_zip-push P [] (b ∷ ys) x y h p = absurd h
all_zip-push P (a ∷ xs) [] x y h p = absurd h
all_zip-push P (a ∷ xs) (b ∷ ys) x y h p = (h.0, all_zip-push P xs ys x y h.1 p)

pub all_zip-all : {A B : Type 0} (P : A → B → Type 0) (xs : List A) (ys : List B) → AllZip P xs ys → AllByRecursion (λ x. (y : B) × P x y) xs
all_zip-all P [] ys h = tt
all_zip-all P (x ∷ xs) [] h = absurd h
all_zip-all P (x ∷ xs) (y ∷ ys) h = ((y, h.0), all_zip-all P xs ys h.1)

module _ {V : Type 0} (gives : Reading V) (s offsets : List ℕ) (fault : Option (ℕ × Cause)) where
  -- the first i frames decode to these values
  pub record ReadsTo (i : ℕ) (vs : List V) : Type 0 where
    pub before : List Frame
    pub after : List Frame
    pub all : FramesOrFault s (before ++ after) fault
    pub places : offsets ≡ starts 0 (before ++ after)
    pub count : i ≡ length before
    pub values : AllZip (λ x v. FrameGives gives x (Ok v)) before vs

  pub reads_none : (i : ℕ) (vs : List V) → Finds s offsets fault → i ≡ 0 → vs ≡ [] → ReadsTo i vs
  reads_none i vs found zero none = record {
    before = [];
    after = found.frames;
    all = found.all;
    places = found.places;
    count = zero;
    values = subst (AllZip (λ x v. FrameGives gives x (Ok v)) []) (sym none) tt;
  }

  -- frame i, between those before it and those after it
  record At (i : ℕ) (vs : List V) (f : ℕ) (p : List ℕ) : Type 0 where
    before : List Frame
    frame : Frame
    after : List Frame
    rest : List ℕ
    all : FramesOrFault s (before ++ frame ∷ after) fault
    places : offsets ≡ starts 0 (before ++ frame ∷ after)
    count : i ≡ length before
    values : AllZip (λ x v. FrameGives gives x (Ok v)) before vs
    frames : AreFrames (before ++ frame ∷ after)
    behind : drop (get_or offsets i 0) s ≡ frame_bytes frame ++ rest
    string : s ≡ bytes_of_frames before ++ (frame_bytes frame ++ rest)
    offset : get_or offsets i 0 ≡ length (bytes_of_frames before)
    kind_field : f ≡ frame.kind_field
    payload : p ≡ frame.payload

  frame_at : (i : ℕ) (vs : List V) (f : ℕ) (p : List ℕ) → ReadsTo i vs → i < length offsets → BeginsWith (drop (get_or offsets i 0) s) (bare f p) → At i vs f p
  frame_at i vs f p h lt b = by_after h.before h.after h.all h.places h.count h.values (cut_of s (h.before ++ h.after) fault h.all)
    where
      by_after : (before after : List Frame) → FramesOrFault s (before ++ after) fault → offsets ≡ starts 0 (before ++ after) → i ≡ length before → AllZip (λ x v. FrameGives gives x (Ok v)) before vs
          → (rest : List ℕ) × AreFrames (before ++ after) × (s ≡ bytes_of_frames (before ++ after) ++ rest) → At i vs f p
      by_after before [] all places count values cut = absurd (omega (arith, lt, ap length places, length-starts 0 (before ++ []), length-append before [], count))
      by_after before (x ∷ after) all places count values (rest, frames, string) =
          let tail = bytes_of_frames after ++ rest in
          let whole : s ≡ bytes_of_frames before ++ (frame_bytes x ++ tail) =
          string ∙ ap (λ t. t ++ rest) (bytes_of_frames-append before (x ∷ after)) ∙ append_assoc (bytes_of_frames before) (frame_bytes x ++ bytes_of_frames after) rest ∙ ap (λ t. bytes_of_frames before ++ t) (append_assoc (frame_bytes x) (bytes_of_frames after) rest) in
          let offset : get_or offsets i 0 ≡ length (bytes_of_frames before) = ap (λ o. get_or o i 0) places ∙ ap (λ k. get_or (starts 0 (before ++ x ∷ after)) k 0) count ∙ starts-at 0 before x after ∙ omega arith in
          let behind : drop (get_or offsets i 0) s ≡ frame_bytes x ++ tail =
          ap (λ k. drop k s) offset ∙ ap (drop (length (bytes_of_frames before))) whole ∙ drop-append_seam (bytes_of_frames before) (frame_bytes x ++ tail) in
          let same = SameFront-frames (bare f p) x b.rest tail b.is (AreFrames-head x after (frames_behind before x after frames)) (sym b.string ∙ behind) in
          record {
            before = before;
            frame = x;
            after = after;
            rest = tail;
            all = all;
            places = places;
            count = count;
            values = values;
            frames = frames;
            behind = behind;
            string = whole;
            offset = offset;
            kind_field = same.kind_field;
            payload = same.payload;
          }

  -- frame i decodes to a value
  pub reads_more : (i : ℕ) (vs : List V) (f : ℕ) (p : List ℕ) (v : V) → ReadsTo i vs → i < length offsets → BeginsWith (drop (get_or offsets i 0) s) (bare f p) → gives f p (Ok v) → ReadsTo (i + 1) (vs ++ v ∷ [])
  reads_more i vs f p v h lt b given =
      let at = frame_at i vs f p h lt b in
      let x = at.frame in
      let same : (at.before ++ x ∷ []) ++ at.after ≡ at.before ++ x ∷ at.after = append_assoc at.before (x ∷ []) at.after in
      let reads : gives x.kind_field x.payload (Ok v) = subst (λ k. gives k x.payload (Ok v)) at.kind_field (subst (λ q. gives f q (Ok v)) at.payload given) in
      record {
        before = at.before ++ x ∷ [];
        after = at.after;
        all = subst (λ xs. FramesOrFault s xs fault) (sym same) at.all;
        places = at.places ∙ ap (starts 0) (sym same);
        count = omega (arith, at.count, length-append at.before (x ∷ []));
        values = all_zip-push (λ x v. FrameGives gives x (Ok v)) at.before vs x v at.values reads;
      }

  -- frame i has an error
  pub reads_fault : (i : ℕ) (vs : List V) (f : ℕ) (p : List ℕ) (c : DecodeFault) → ReadsTo i vs → i < length offsets → BeginsWith (drop (get_or offsets i 0) s) (bare f p) → gives f p (Err c)
      → FirstFault gives s (get_or offsets i 0) c
  reads_fault i vs f p c h lt b given =
      let at = frame_at i vs f p h lt b in
      let x = at.frame in
      let reads : gives x.kind_field x.payload (Err c) = subst (λ k. gives k x.payload (Err c)) at.kind_field (subst (λ q. gives f q (Err c)) at.payload given) in
      let is = AreFrames-head x at.after (frames_behind at.before x at.after at.frames) in
      record {
        front = at.before;
        rest = frame_bytes x ++ at.rest;
        string = at.string;
        complete = complete_before at.before x at.after at.frames;
        values = all_zip-all (λ x v. FrameGives gives x (Ok v)) at.before vs at.values;
        some = omega (arith, length-append (frame_bytes x) at.rest, length-append x.payload x.padding);
        offset = at.offset;
        here = inr (x, record { rest = at.rest; is = is; string = refl }, reads);
      }

  -- the result of the call if value i is malformed
  pub ends_at_value : (i : ℕ) (vs : List V) (f : ℕ) (p : List ℕ) (e : DecodeError) → ReadsTo i vs → i < length offsets → BeginsWith (drop (get_or offsets i 0) s) (bare f p) → Fails e (gives f p)
      → ListFails (list_error (get_or offsets i 0) e) gives s
  ends_at_value i vs f p (errors.Memory e) h lt b given = tt
  ends_at_value i vs f p (errors.Fault c) h lt b given = reads_fault i vs f p c h lt b given

  -- nothing is left
  all_read : (i : ℕ) (vs : List V) → ReadsTo i vs → length offsets ≤ i → (xs : List Frame) × FramesOrFault s xs fault × AllZip (λ x v. FrameGives gives x (Ok v)) xs vs
  all_read i vs h end = by_after h.before h.after h.all h.places h.count h.values
    where
      by_after : (before after : List Frame) → FramesOrFault s (before ++ after) fault → offsets ≡ starts 0 (before ++ after) → i ≡ length before → AllZip (λ x v. FrameGives gives x (Ok v)) before vs
          → (xs : List Frame) × FramesOrFault s xs fault × AllZip (λ x v. FrameGives gives x (Ok v)) xs vs
      by_after before [] all places count values = (before, subst (λ xs. FramesOrFault s xs fault) (append-nil before) all, values)
      by_after before (x ∷ after) all places count values = absurd (omega (arith, end, ap length places, length-starts 0 (before ++ x ∷ after), length-append before (x ∷ after), count))

module _ {V : Type 0} (gives : Reading V) (s offsets : List ℕ) where
  -- at the end, without a malformed header
  pub reads_all : (fault : Option (ℕ × Cause)) (i : ℕ) (vs : List V) → fault ≡ None → ReadsTo gives s offsets fault i vs → length offsets ≤ i → Wire gives s vs
  reads_all fault i vs none h end =
      let read = all_read gives s offsets fault i vs h end in
      record { frames = read.0; string = subst (FramesOrFault s read.0) none read.1; values = read.2 }

  -- at the end, with a malformed header
  pub ends_at_frame : (fault : Option (ℕ × Cause)) (i : ℕ) (vs : List V) (at : ℕ) (c : Cause) → fault ≡ Some (at, c) → ReadsTo gives s offsets fault i vs → length offsets ≤ i
      → FirstFault gives s at (faults.Frame c)
  ends_at_frame fault i vs at c some h end =
      let read = all_read gives s offsets fault i vs h end in
      let (rest, complete, string, left, bad, place) = subst (FramesOrFault s read.0) some read.1 in
      record {
        front = read.0;
        rest = rest;
        string = string;
        complete = complete;
        values = all_zip-all (λ x v. FrameGives gives x (Ok v)) read.0 vs read.2;
        some = left;
        offset = place;
        here = inl (c, bad, refl);
      }
