-- The concatenation of two lists, if the first decodes and its length is a multiple of four.
use Rattle.std.proofs.Common.{◌≡◌, ℕ, ◌+◌, ◌-◌, ◌%◌, ◌≤◌, List, [], ◌∷◌, ◌++◌, length, Ok, sym, ap, ap₂, ◌∙◌, arith, append_assoc, length-append}
use Rattle.std.specs.List.{AllByRecursion}
use Rattle.link_base.specs.declared.wire.fault.DecodeFault.{DecodeFault}
use Rattle.link_base.specs.Frame.{Frame, IsComplete, AreFrames, frame_bytes, bytes_of_frames, pad}
use Rattle.link_base.specs.Wire.{Reading, FrameGives, Wire, FirstFault}
use Rattle.link_base.proofs.FrameBytes.{length-frame_bytes, length-complete}
use Rattle.link_base.proofs.Readings.{AreFrames-cons, ReadEach, HaveValues}
use Rattle.link_base.proofs.Written.{bytes_of_frames-append, all_append}

-- a frame whose length is a multiple of four has complete padding
last_complete : (n z : ℕ) → z ≤ pad (4 + n) - (4 + n) → (4 + n + z) % 4 ≡ 0 → z ≡ pad (4 + n) - (4 + n)
last_complete n z le e = omega arith

-- frames with a total length that is a multiple of four are complete
all_complete : (xs : List Frame) → AreFrames xs → length (bytes_of_frames xs) % 4 ≡ 0 → AllByRecursion IsComplete xs
all_complete [] h e = tt
all_complete (x ∷ []) h e =
    let len = length-frame_bytes x in (
      record {
        kind_field = h.kind_field;
        payload = h.payload;
        padding = last_complete (length x.payload) (length x.padding) h.padding (omega (arith, length-append (frame_bytes x) []));
      },
      tt,
    )
all_complete (x ∷ y ∷ xs) h e =
    let len = length-complete x h.0 in
    (h.0, all_complete (y ∷ xs) h.1 (omega (arith, length-append (frame_bytes x) (bytes_of_frames (y ∷ xs)))))

-- complete frames, then frames
frames_append : (xs ys : List Frame) → AllByRecursion IsComplete xs → AreFrames ys → AreFrames (xs ++ ys)
frames_append [] ys h k = k
frames_append (x ∷ xs) ys h k = AreFrames-cons x (xs ++ ys) h.0 (frames_append xs ys h.1 k)

module _ {V : Type 0} (gives : Reading V) where
  -- the values of concatenated frames
  values_append : (xs ys : List Frame) (vs ws : List V) → ReadEach gives xs vs → ReadEach gives ys ws → ReadEach gives (xs ++ ys) (vs ++ ws)
  values_append [] ys [] ws h k = k
  values_append [] ys (v ∷ vs) ws h k = absurd h
  values_append (x ∷ xs) ys [] ws h k = absurd h
  values_append (x ∷ xs) ys (v ∷ vs) ws h k = (h.0, values_append xs ys vs ws h.1 k)

  -- frames that decode to values have values
  have_values : (xs : List Frame) (vs : List V) → ReadEach gives xs vs → HaveValues gives xs
  have_values [] vs h = tt
  have_values (x ∷ xs) [] h = absurd h
  have_values (x ∷ xs) (v ∷ vs) h = ((v, h.0), have_values xs vs h.1)

  -- the values of the second list follow those of the first
  pub joined_values : (a b : List ℕ) (vs ws : List V) → length a % 4 ≡ 0 → Wire gives a vs → Wire gives b ws → Wire gives (a ++ b) (vs ++ ws)
  joined_values a b vs ws e w u =
      let done = all_complete w.frames w.string.frames (omega (arith, ap length w.string.string)) in
      record {
        frames = w.frames ++ u.frames;
        string = record {
          frames = frames_append w.frames u.frames done u.string.frames;
          string = ap₂ (λ x y. x ++ y) w.string.string u.string.string ∙ sym (bytes_of_frames-append w.frames u.frames);
        };
        values = values_append w.frames u.frames vs ws w.values u.values;
      }

  -- the first error of the second list is that of both, at an offset that is greater by the length of the first
  pub joined_fault : (a b : List ℕ) (vs : List V) (at : ℕ) (fault : DecodeFault) → length a % 4 ≡ 0 → Wire gives a vs → FirstFault gives b at fault
      → FirstFault gives (a ++ b) (length a + at) fault
  joined_fault a b vs at fault e w h =
      let done = all_complete w.frames w.string.frames (omega (arith, ap length w.string.string)) in
      record {
        front = w.frames ++ h.front;
        rest = h.rest;
        string = ap₂ (λ x y. x ++ y) w.string.string h.string ∙ sym (append_assoc (bytes_of_frames w.frames) (bytes_of_frames h.front) h.rest)
            ∙ ap (λ t. t ++ h.rest) (sym (bytes_of_frames-append w.frames h.front));
        complete = all_append IsComplete w.frames h.front done h.complete;
        values = all_append (λ x. (v : V) × FrameGives gives x (Ok v)) w.frames h.front (have_values w.frames vs w.values) h.values;
        some = h.some;
        offset = omega (arith, h.offset, ap length w.string.string, ap length (bytes_of_frames-append w.frames h.front), length-append (bytes_of_frames w.frames) (bytes_of_frames h.front));
        here = h.here;
      }
