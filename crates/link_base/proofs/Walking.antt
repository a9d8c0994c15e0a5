-- Finding the frames of a list, and what is decoded from the table of their offsets.
use Rattle.std.proofs.Common.{◌≡◌, ◌≢◌, ◌⊎◌, ℕ, suc, ◌+◌, ◌-◌, ◌*◌, ◌<◌, ◌≤◌, List, [], ◌∷◌, ◌++◌, length, drop, get_or, Option, Some, None, refl, sym, ap, subst, ◌∙◌, arith, inl, inr, append_assoc}
use Rattle.std.specs.List.{AllByRecursion}
use Rattle.std.proofs.lemmas.List.{append-nil, length-append}
use Rattle.std.proofs.lemmas.Bool.{cases_lt}
use Rattle.std.proofs.lemmas.Grind.{flat_map-append}
use Rattle.std.proofs.Math.ListN.{get_or-append}
use Rattle.std.proofs.Math.Seq.{drop-append_seam, get_or-append_seam}
use Rattle.link_base.specs.declared.wire.fault.Cause.{Cause}
use Rattle.link_base.specs.Frame.{Frame, IsFrame, IsComplete, AreFrames, frame_bytes, bytes_of_frames, frame_fault}
use Rattle.link_base.specs.FrameOffsets.{starts, FramesOrFault, FindsBefore, Finds, BeginFrames}
use Rattle.link_base.proofs.FrameAtFront.{Splits}
use Rattle.link_base.proofs.Cuts.{AreFrames-head}
use Rattle.link_base.proofs.FrameBytes.{frame_fault-frame, length-frame_bytes}

-- ---- frames and one more

pub bytes_of_frames-push : (xs : List Frame) (x : Frame) → bytes_of_frames (xs ++ x ∷ []) ≡ bytes_of_frames xs ++ frame_bytes x
bytes_of_frames-push xs x = flat_map-append frame_bytes xs (x ∷ []) ∙ ap (λ t. bytes_of_frames xs ++ t) (append-nil (frame_bytes x))

starts-push : (at : ℕ) (xs : List Frame) (x : Frame) → starts at (xs ++ x ∷ []) ≡ starts at xs ++ (at + length (bytes_of_frames xs)) ∷ []
starts-push at [] x = let e : at ≡ at + 0 = omega arith in ap (λ i. i ∷ []) e
starts-push at (y ∷ xs) x =
    let next = at + length (frame_bytes y) in
    let e : next + length (bytes_of_frames xs) ≡ at + length (frame_bytes y ++ bytes_of_frames xs) = omega (arith, length-append (frame_bytes y) (bytes_of_frames xs)) in
    ap (λ t. at ∷ t) (starts-push next xs x ∙ ap (λ i. starts next xs ++ i ∷ []) e)

pub length-starts : (at : ℕ) (xs : List Frame) → length (starts at xs) ≡ length xs
length-starts at [] = refl
length-starts at (x ∷ xs) = ap suc (length-starts (at + length (frame_bytes x)) xs)

complete_frames : (xs : List Frame) → AllByRecursion IsComplete xs → AreFrames xs
complete_frames [] h = tt
complete_frames (x ∷ []) h = record { kind_field = h.0.kind_field; payload = h.0.payload; padding = omega (arith, h.0.padding) }
complete_frames (x ∷ y ∷ xs) h = (h.0, complete_frames (y ∷ xs) h.1)

pub frames_push : (xs : List Frame) (x : Frame) → AllByRecursion IsComplete xs → IsFrame x → AreFrames (xs ++ x ∷ [])
frames_push [] x h is = is
frames_push (y ∷ []) x h is = (h.0, is)
frames_push (y ∷ z ∷ xs) x h is = (h.0, frames_push (z ∷ xs) x h.1 is)

complete_push : (xs : List Frame) (x : Frame) → AllByRecursion IsComplete xs → IsComplete x → AllByRecursion IsComplete (xs ++ x ∷ [])
complete_push [] x h is = (is, tt)
complete_push (y ∷ xs) x h is = (h.0, complete_push xs x h.1 is)

-- ---- how many frames there are

-- n frames before the rest, all of them complete if anything is left
pub record Counted (s : List ℕ) (count : ℕ) (rest : List ℕ) : Type 0 where
  pub front : List Frame
  pub string : s ≡ bytes_of_frames front ++ rest
  pub frames : ((rest ≡ []) × AreFrames front) ⊎ AllByRecursion IsComplete front
  pub many : count ≡ length front

pub counted_none : (s : List ℕ) → Counted s 0 s
counted_none s = record { front = []; string = refl; frames = inr tt; many = refl }

pub front_none : (s : List ℕ) → (counted_none s).front ≡ []
unfolding counted_none
front_none s = refl

pub all_complete : (rest : List ℕ) (front : List Frame) → ((rest ≡ []) × AreFrames front) ⊎ AllByRecursion IsComplete front → rest ≢ [] → AllByRecursion IsComplete front
all_complete rest front (inl h) some = absurd (some h.0)
all_complete rest front (inr h) some = h

still_frames : (next : List ℕ) (front : List Frame) (x : Frame) → AllByRecursion IsComplete front → IsFrame x → (next ≡ []) ⊎ IsComplete x
    → ((next ≡ []) × AreFrames (front ++ x ∷ [])) ⊎ AllByRecursion IsComplete (front ++ x ∷ [])
still_frames next front x h is (inl e) = inl (e, frames_push front x h is)
still_frames next front x h is (inr complete) = inr (complete_push front x h complete)

pub are_frames : (rest : List ℕ) (front : List Frame) → ((rest ≡ []) × AreFrames front) ⊎ AllByRecursion IsComplete front → AreFrames front
are_frames rest front (inl h) = h.1
are_frames rest front (inr h) = complete_frames front h

pub some_bytes : (s : List ℕ) → s ≢ [] → 0 < length s
some_bytes [] e = absurd (e refl)
some_bytes (b ∷ s) e = omega arith

-- one frame more
pub counted_more : (s : List ℕ) (count : ℕ) (rest next : List ℕ) (f : ℕ) (p : List ℕ) → Counted s count rest → rest ≢ [] → Splits rest f p next → Counted s (count + 1) next
counted_more s count rest next f p w some split =
    let x : Frame = record { kind_field = f; payload = p; padding = split.padding } in
    let cut : s ≡ bytes_of_frames w.front ++ (frame_bytes x ++ next) = w.string ∙ ap (λ t. bytes_of_frames w.front ++ t) split.string in
    record {
      front = w.front ++ x ∷ [];
      string = cut ∙ sym (append_assoc (bytes_of_frames w.front) (frame_bytes x) next) ∙ ap (λ t. t ++ next) (sym (bytes_of_frames-push w.front x));
      frames = still_frames next w.front x (all_complete rest w.front w.frames some) split.is split.last;
      many = omega (arith, w.many, length-append w.front (x ∷ []));
    }

pub front_more : (s : List ℕ) (count : ℕ) (rest next : List ℕ) (f : ℕ) (p : List ℕ) (w : Counted s count rest) (some : rest ≢ []) (split : Splits rest f p next)
    → (counted_more s count rest next f p w some split).front ≡ w.front ++ record { kind_field = f; payload = p; padding = split.padding } ∷ []
unfolding counted_more
front_more s count rest next f p w some split = refl

-- ---- where they start

-- the counted frames are frames, and other bytes may follow them
pub cut_of : (s : List ℕ) (xs : List Frame) (fault : Option (ℕ × Cause)) → FramesOrFault s xs fault → (rest : List ℕ) × AreFrames xs × (s ≡ bytes_of_frames xs ++ rest)
cut_of s xs None h = ([], h.frames, h.string ∙ sym (append-nil (bytes_of_frames xs)))
cut_of s xs (Some fault) (rest, complete, string, left, bad, place) = (rest, complete_frames xs complete, string)

-- ---- a table while it is filled

-- each frame has at least four bytes
least_bytes : (xs : List Frame) → 4 * length xs ≤ length (bytes_of_frames xs)
least_bytes [] = omega arith
least_bytes (x ∷ xs) = omega (arith, length-append (frame_bytes x) (bytes_of_frames xs), length-frame_bytes x, least_bytes xs)

pub before_few : (s offsets rest : List ℕ) → FindsBefore s offsets rest → 4 * length offsets + length rest ≤ length s
before_few s offsets rest w =
    omega (arith, ap length w.string, length-append (bytes_of_frames w.frames) rest, ap length w.places, length-starts 0 w.frames, least_bytes w.frames)

-- if a frame was found, the bytes start with one
pub before_some : (s offsets rest : List ℕ) → FindsBefore s offsets rest → 0 < length offsets → frame_fault s ≡ None
before_some s offsets rest w some = by_frames w.frames w.string (are_frames rest w.frames w.all) w.places
  where
    by_frames : (xs : List Frame) → s ≡ bytes_of_frames xs ++ rest → AreFrames xs → offsets ≡ starts 0 xs → frame_fault s ≡ None
    by_frames [] string are places = absurd (omega (arith, some, ap length places))
    by_frames (x ∷ xs) string are places = ap frame_fault (string ∙ append_assoc (frame_bytes x) (bytes_of_frames xs) rest) ∙ frame_fault-frame x (bytes_of_frames xs ++ rest) (AreFrames-head x xs are)

-- the length of the rest
before_at : (s offsets rest : List ℕ) (w : FindsBefore s offsets rest) → length s - length rest ≡ length (bytes_of_frames w.frames)
before_at s offsets rest w = omega (arith, ap length w.string, length-append (bytes_of_frames w.frames) rest)

-- one frame more
pub before_more : (s offsets more rest next : List ℕ) (f : ℕ) (p : List ℕ) → FindsBefore s offsets rest → rest ≢ [] → Splits rest f p next → more ≡ offsets ++ (length s - length rest) ∷ [] → FindsBefore s more next
before_more s offsets more rest next f p w some split e =
    let x : Frame = record { kind_field = f; payload = p; padding = split.padding } in
    let counted : Counted s (length w.frames) rest = record { front = w.frames; string = w.string; frames = w.all; many = refl } in
    let c = counted_more s (length w.frames) rest next f p counted some split in
    let at : length s - length rest ≡ 0 + length (bytes_of_frames w.frames) = omega (arith, before_at s offsets rest w) in
    let last = ap (λ k. offsets ++ k ∷ []) at ∙ ap (λ o. o ++ (0 + length (bytes_of_frames w.frames)) ∷ []) w.places in
    record {
      frames = c.front;
      string = c.string;
      all = c.frames;
      places = e ∙ last ∙ sym (starts-push 0 w.frames x) ∙ ap (starts 0) (sym (front_more s (length w.frames) rest next f p counted some split));
    }

-- at the end
pub before_all : (s offsets rest : List ℕ) → FindsBefore s offsets rest → rest ≡ [] → Finds s offsets None
before_all s offsets rest w e = record {
  frames = w.frames;
  all = record { frames = are_frames rest w.frames w.all; string = w.string ∙ ap (λ t. bytes_of_frames w.frames ++ t) e ∙ append-nil (bytes_of_frames w.frames) };
  places = w.places;
}

-- ---- the offsets at which frames start

-- one offset more
begin_more : (s offsets : List ℕ) (at : ℕ) → BeginFrames s offsets → at ≤ length s → frame_fault (drop at s) ≡ None → BeginFrames s (offsets ++ at ∷ [])
begin_more s offsets at h low none i lt = elim (cases_lt i (length offsets)) [
  | inl before ↦ subst (λ k. (k ≤ length s) × (frame_fault (drop k s) ≡ None)) (sym (get_or-append offsets (at ∷ []) 0 i before)) (h i before)
  | inr past ↦
      let last : i ≡ length offsets = omega (arith, lt, past, length-append offsets (at ∷ [])) in
      subst (λ k. (k ≤ length s) × (frame_fault (drop k s) ≡ None)) (sym (ap (λ j. get_or (offsets ++ at ∷ []) j 0) last ∙ get_or-append_seam offsets at [] 0)) (low, none)
]

-- the offset of the next frame
pub begin_next : (s t offsets more rest : List ℕ) → FindsBefore s offsets rest → frame_fault rest ≡ None → t ≡ s → BeginFrames t offsets → more ≡ offsets ++ (length s - length rest) ∷ [] → BeginFrames t more
begin_next s t offsets more rest w none same h e =
    let at = length s - length rest in
    let behind : drop at s ≡ rest = ap (λ k. drop k s) (before_at s offsets rest w) ∙ ap (drop (length (bytes_of_frames w.frames))) w.string ∙ drop-append_seam (bytes_of_frames w.frames) rest in
    subst (λ o. BeginFrames t o) (sym e) (begin_more t offsets at h (omega (arith, ap length same)) (ap (λ u. frame_fault (drop at u)) same ∙ (ap frame_fault behind ∙ none)))
