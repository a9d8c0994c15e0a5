-- Views: what is known of a list that decodes, one attribute at a time.
use Rattle.std.proofs.Common.{◌≡◌, ◌≢◌, ◌⊎◌, ℕ, ◌+◌, ◌≤◌, List, [], ◌∷◌, ◌++◌, length, Bool, true, false, cond, reverse, ◌==◌, Option, Some, None, Ok, refl, sym, ap, ap₂, subst, ◌∙◌, arith, inl, inr, append_assoc}
use Rattle.std.proofs.lemmas.List.{append-nil, length-append, reverse-append}
use Rattle.std.proofs.lemmas.Bool.{eqb-true, eq-eqb}
use Rattle.link_base.specs.declared.wire.fault.Cause.{Cause}
use Rattle.link_base.specs.declared.wire.buffer.NlaBuffer.{NlaBuffer}
use Rattle.link_base.specs.Frame.{Frame, Frames, IsFrame, IsComplete, AreFrames, kind_of, frame_bytes, bytes_of_frames, frame_fault}
use Rattle.link_base.specs.Wire.{Reading, Wire}
use Rattle.link_base.specs.Table.{Table, Gives}
use Rattle.link_base.specs.Buffer.{kind_field_of, payload_of, SplitsFirst}
use Rattle.link_base.specs.Borrowed.{HasValue, HasValues}
use Rattle.link_base.specs.Viewed.{first_of, last_of}
use Rattle.link_base.proofs.Cuts.{SameFront-frames, AreFrames-head, same_gap}
use Rattle.link_base.proofs.FrameAtFront.{Splits, splits}
use Rattle.link_base.proofs.FrameBytes.{frame_fault-frame, length-frame_bytes}
use Rattle.link_base.proofs.Readings.{NextFrames-more, ReadEach}

-- the first frame of a list, and the others, which are those of the bytes after it
pub record FirstFrame (f : ℕ) (p next : List ℕ) (xs : List Frame) : Type 0 where
  pub frame : Frame
  pub others : List Frame
  pub is : xs ≡ frame ∷ others
  pub kind_field : frame.kind_field ≡ f
  pub payload : frame.payload ≡ p
  pub frames : Frames next others

-- nothing follows a frame whose padding is truncated
nothing_after : (x y : Frame) (xs : List Frame) → AreFrames (x ∷ xs) → IsFrame y → frame_bytes x ++ bytes_of_frames xs ≡ frame_bytes y ++ [] → Frames [] xs
nothing_after x y [] hx hy e = record { frames = tt; string = refl }
nothing_after x y (x2 ∷ xs) hx hy e =
    let same = SameFront-frames x y (bytes_of_frames (x2 ∷ xs)) [] (AreFrames-head x (x2 ∷ xs) hx) hy e in
    let g = same_gap x y same.payload in
    absurd (omega (
      arith,
      ap length same.rest,
      length-append x.padding (bytes_of_frames (x2 ∷ xs)),
      length-append y.padding [],
      length-append (frame_bytes x2) (bytes_of_frames xs),
      length-frame_bytes x2,
      hx.0.padding,
      hy.padding,
    ))

frames_after : (x y : Frame) (xs : List Frame) (next : List ℕ) → AreFrames (x ∷ xs) → IsFrame y → (next ≡ []) ⊎ IsComplete y
    → frame_bytes x ++ bytes_of_frames xs ≡ frame_bytes y ++ next → Frames next xs
frames_after x y xs next hx hy (inl none) e = subst (λ t. Frames t xs) (sym none) (nothing_after x y xs hx hy (e ∙ ap (λ t. frame_bytes y ++ t) none))
frames_after x y xs [] hx hy (inr c) e = nothing_after x y xs hx hy e
frames_after x y xs (b ∷ next) hx hy (inr c) e =
    let more = NextFrames-more x xs y (b ∷ next) hx c (omega arith) e in
    record { frames = more.frames; string = sym more.rest }

-- the frames of a list that starts with this one
pub first_frame : (s : List ℕ) (f : ℕ) (p next : List ℕ) (xs : List Frame) → Splits s f p next → Frames s xs → FirstFrame f p next xs
first_frame s f p next xs split w = by_frames xs w.frames (sym w.string ∙ split.string)
  where
    y : Frame
    y = record { kind_field = f; payload = p; padding = split.padding }

    by_frames : (xs : List Frame) → AreFrames xs → bytes_of_frames xs ≡ frame_bytes y ++ next → FirstFrame f p next xs
    by_frames [] hx e = absurd (omega (arith, ap length e, length-append (frame_bytes y) next, length-frame_bytes y))
    by_frames (x ∷ xs) hx e =
        let same = SameFront-frames x y (bytes_of_frames xs) next (AreFrames-head x xs hx) split.is e in
        record {
          frame = x;
          others = xs;
          is = refl;
          kind_field = same.kind_field;
          payload = same.payload;
          frames = frames_after x y xs next hx split.is split.last e;
        }

-- the first value of a list, and the other values, which are those of the bytes after the first frame
pub record FirstValue {V : Type 0} (gives : Reading V) (f : ℕ) (p next : List ℕ) (vs : List V) : Type 0 where
  pub value : V
  pub others : List V
  pub is : vs ≡ value ∷ others
  pub given : gives f p (Ok value)
  pub wire : Wire gives next others

module _ {V : Type 0} (gives : Reading V) where
  by_values : (x : Frame) (xs : List Frame) (vs : List V) → ReadEach gives (x ∷ xs) vs → (f : ℕ) (p next : List ℕ) → x.kind_field ≡ f → x.payload ≡ p → Frames next xs
      → FirstValue gives f p next vs
  by_values x xs [] hv f p next ef ep w = absurd hv
  by_values x xs (v ∷ vs) hv f p next ef ep w = record {
    value = v;
    others = vs;
    is = refl;
    given = subst (λ q. gives f q (Ok v)) ep (subst (λ g. gives g x.payload (Ok v)) ef hv.0);
    wire = record { frames = xs; string = w; values = hv.1 };
  }

  -- the values of a list that starts with a frame
  pub first_value : (s : List ℕ) (f : ℕ) (p next : List ℕ) (vs : List V) → Splits s f p next → Wire gives s vs → FirstValue gives f p next vs
  first_value s f p next vs split w =
      let first = first_frame s f p next w.frames split w.string in
      by_values first.frame first.others vs (subst (λ xs. ReadEach gives xs vs) first.is w.values) f p next first.kind_field first.payload first.frames

module _ (table : Table) where
  -- a list that decodes starts with a frame
  pub values_header : (s : List ℕ) → HasValues table s → s ≢ [] → frame_fault s ≡ None
  values_header s h some = by_fault (frame_fault s) refl
    where
      no_fault : (c : Cause) → frame_fault s ≡ Some c → (xs : List Frame) → AreFrames xs → s ≡ bytes_of_frames xs → ⊥
      no_fault c e [] hx string = some string
      no_fault c e (x ∷ xs) hx string =
          let none : frame_fault s ≡ None = ap frame_fault string ∙ frame_fault-frame x (bytes_of_frames xs) (AreFrames-head x xs hx) in
          absurd cc

      by_fault : (o : Option Cause) → frame_fault s ≡ o → frame_fault s ≡ None
      by_fault None e = e
      by_fault (Some c) e = absurd (h (λ d. no_fault c e d.wire.frames d.wire.string.frames d.wire.string.string))

  -- its first attribute decodes
  pub values_first : (s : List ℕ) (f : ℕ) (p next : List ℕ) → HasValues table s → Splits s f p next → HasValue table f p
  values_first s f p next h split none =
      h (λ d. let first = first_value (Gives table) s f p next d.values split d.wire in none (first.value, first.given))

  -- the attributes after the first decode
  pub values_rest : (s : List ℕ) (f : ℕ) (p next : List ℕ) → HasValues table s → Splits s f p next → HasValues table next
  values_rest s f p next h split none =
      h (λ d. let first = first_value (Gives table) s f p next d.values split d.wire in none (record { values = first.others; wire = first.wire }))

-- ---- walks

-- the `nla_type` and the payload of an attribute; no attribute
abbrev pub some_pair : ℕ → List ℕ → Option (ℕ × List ℕ)
some_pair f p = Some (f, p)

abbrev pub none_pair : Option (ℕ × List ℕ)
none_pair = None

-- nothing has no frames
pub frames_none : (xs : List Frame) → Frames [] xs → xs ≡ []
frames_none [] w = refl
frames_none (x ∷ xs) w = absurd (omega (arith, ap length w.string, length-append (frame_bytes x) (bytes_of_frames xs), length-frame_bytes x))

-- the frame at the start, and the bytes where the next one is
pub split_of : (s : List ℕ) (b : NlaBuffer) (t : List ℕ) → SplitsFirst s b t → Splits s (kind_field_of b) (payload_of b) t
split_of s b t h = subst (Splits s (kind_field_of b) (payload_of b)) (sym h.1) (splits s (kind_field_of b) (payload_of b) h.0)

-- fewer bytes are left
pub split_less : (s : List ℕ) (b : NlaBuffer) (t : List ℕ) → SplitsFirst s b t → length t + 4 ≤ length s
split_less s b t h =
    let split = split_of s b t h in
    let x : Frame = record { kind_field = kind_field_of b; payload = payload_of b; padding = split.padding } in
    omega (arith, ap length split.string, length-append (frame_bytes x) t, length-frame_bytes x)

-- as many frames were passed
abbrev pub Counting : List ℕ → List ℕ → ℕ → Type 0
Counting s rest count = (xs : List Frame) → Frames s xs → (ys : List Frame) × Frames rest ys × (length xs ≡ count + length ys)

pub counting_more : (s rest next : List ℕ) (count : ℕ) (f : ℕ) (p : List ℕ) → Counting s rest count → Splits rest f p next → Counting s next (count + 1)
counting_more s rest next count f p so split xs w =
    let left = so xs w in
    let first = first_frame rest f p next left.0 split left.1 in
    (first.others, first.frames, omega (arith, left.2, ap length first.is))

pub counting_all : (s rest : List ℕ) (count : ℕ) → Counting s rest count → rest ≡ [] → (xs : List Frame) → Frames s xs → count ≡ length xs
counting_all s rest count so e xs w =
    let left = so xs w in
    omega (arith, left.2, ap length (frames_none left.0 (subst (λ t. Frames t left.0) e left.1)))

-- the frames that were passed have another attribute type
abbrev pub Seeking : ℕ → List ℕ → List ℕ → Type 0
Seeking k s rest = (xs : List Frame) → Frames s xs → (ys : List Frame) × Frames rest ys × (first_of k xs ≡ first_of k ys)

-- a frame of another attribute type
passed : (k : ℕ) (x : Frame) (ys : List Frame) → kind_of x.kind_field ≢ k → first_of k (x ∷ ys) ≡ first_of k ys
passed k x ys other = by_test (kind_of x.kind_field == k) refl
  where
    by_test : (b : Bool) → (kind_of x.kind_field == k) ≡ b → first_of k (x ∷ ys) ≡ first_of k ys
    by_test true e = absurd (other (eqb-true (kind_of x.kind_field) k e))
    by_test false e = ap (λ c. cond c (Some (x.kind_field, x.payload)) (first_of k ys)) e

-- a frame of this attribute type
met : (k : ℕ) (x : Frame) (ys : List Frame) → kind_of x.kind_field ≡ k → first_of k (x ∷ ys) ≡ Some (x.kind_field, x.payload)
met k x ys is = ap (λ c. cond c (Some (x.kind_field, x.payload)) (first_of k ys)) (eq-eqb (kind_of x.kind_field) k is)

-- `nla_type` and payload of the frame
same_pair : (x : Frame) (f : ℕ) (p : List ℕ) → x.kind_field ≡ f → x.payload ≡ p → some_pair x.kind_field x.payload ≡ some_pair f p
same_pair x f p ef ep = ap₂ some_pair ef ep

pub seeking_more : (k : ℕ) (s rest next : List ℕ) (f : ℕ) (p : List ℕ) → Seeking k s rest → Splits rest f p next → kind_of f ≢ k → Seeking k s next
seeking_more k s rest next f p so split other xs w =
    let left = so xs w in
    let first = first_frame rest f p next left.0 split left.1 in
    let not_here : kind_of first.frame.kind_field ≢ k = λ e. other (ap kind_of (sym first.kind_field) ∙ e) in
    (first.others, first.frames, left.2 ∙ ap (first_of k) first.is ∙ passed k first.frame first.others not_here)

pub seeking_met : (k : ℕ) (s rest next : List ℕ) (f : ℕ) (p : List ℕ) → Seeking k s rest → Splits rest f p next → kind_of f ≡ k
    → (xs : List Frame) → Frames s xs → some_pair f p ≡ first_of k xs
seeking_met k s rest next f p so split is xs w =
    let left = so xs w in
    let first = first_frame rest f p next left.0 split left.1 in
    sym (left.2 ∙ ap (first_of k) first.is ∙ met k first.frame first.others (ap kind_of first.kind_field ∙ is) ∙ same_pair first.frame f p first.kind_field first.payload)

pub seeking_all : (k : ℕ) (s rest : List ℕ) → Seeking k s rest → rest ≡ [] → (xs : List Frame) → Frames s xs → none_pair ≡ first_of k xs
seeking_all k s rest so e xs w =
    let left = so xs w in
    sym (left.2 ∙ ap (first_of k) (frames_none left.0 (subst (λ t. Frames t left.0) e left.1)))

-- the last of the frames that were passed is the one that was found
abbrev pub Keeping : ℕ → List ℕ → List ℕ → Option (ℕ × List ℕ) → Type 0
Keeping k s rest found = (xs : List Frame) → Frames s xs → (front ys : List Frame) × Frames rest ys × (xs ≡ front ++ ys) × (found ≡ last_of k front)

last_push : (k : ℕ) (front : List Frame) (x : Frame) → last_of k (front ++ x ∷ []) ≡ first_of k (x ∷ reverse front)
last_push k front x = ap (first_of k) (reverse-append front (x ∷ []))

onto : (front ys others : List Frame) (x : Frame) (xs : List Frame) → xs ≡ front ++ ys → ys ≡ x ∷ others → xs ≡ (front ++ x ∷ []) ++ others
onto front ys others x xs e is = e ∙ ap (λ t. front ++ t) is ∙ sym (append_assoc front (x ∷ []) others)

pub keeping_more : (k : ℕ) (s rest next : List ℕ) (found : Option (ℕ × List ℕ)) (f : ℕ) (p : List ℕ) → Keeping k s rest found → Splits rest f p next → kind_of f ≢ k
    → Keeping k s next found
keeping_more k s rest next found f p so split other xs w =
    let left = so xs w in
    let first = first_frame rest f p next left.1 split left.2 in
    let not_here : kind_of first.frame.kind_field ≢ k = λ e. other (ap kind_of (sym first.kind_field) ∙ e) in (
      left.0 ++ first.frame ∷ [],
      first.others,
      first.frames,
      onto left.0 left.1 first.others first.frame xs left.3 first.is,
      left.4 ∙ sym (last_push k left.0 first.frame ∙ passed k first.frame (reverse left.0) not_here),
    )

pub keeping_met : (k : ℕ) (s rest next : List ℕ) (found : Option (ℕ × List ℕ)) (f : ℕ) (p : List ℕ) → Keeping k s rest found → Splits rest f p next → kind_of f ≡ k
    → Keeping k s next (some_pair f p)
keeping_met k s rest next found f p so split is xs w =
    let left = so xs w in
    let first = first_frame rest f p next left.1 split left.2 in
    let here = met k first.frame (reverse left.0) (ap kind_of first.kind_field ∙ is) ∙ same_pair first.frame f p first.kind_field first.payload in (
      left.0 ++ first.frame ∷ [],
      first.others,
      first.frames,
      onto left.0 left.1 first.others first.frame xs left.3 first.is,
      sym (last_push k left.0 first.frame ∙ here),
    )

pub keeping_all : (k : ℕ) (s rest : List ℕ) (found : Option (ℕ × List ℕ)) → Keeping k s rest found → rest ≡ [] → (xs : List Frame) → Frames s xs → found ≡ last_of k xs
keeping_all k s rest found so e xs w =
    let left = so xs w in
    let nothing = frames_none left.1 (subst (λ t. Frames t left.1) e left.2) in
    left.4 ∙ ap (last_of k) (sym (left.3 ∙ ap (λ t. left.0 ++ t) nothing ∙ append-nil left.0))
