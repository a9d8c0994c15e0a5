-- The items of an iterator over attributes.
use Rattle.std.specs.Prelude.{◌≡◌, ◌≢◌, ◌⊎◌, ℕ, ◌+◌, ◌/◌, ◌<◌, ◌≤◌, min, List, [], ◌∷◌, ◌++◌, length, map, Option, Some, None, Result, Ok, Err}
use Rattle.std.specs.List.{AllByRecursion}
use Rattle.link_base.specs.declared.wire.buffer.NlaBuffer.{NlaBuffer}
use Rattle.link_base.specs.declared.wire.iterator.NlasIterator.{NlasIterator}
use Rattle.link_base.specs.declared.wire.fault.DecodeError.{DecodeError}
use Rattle.link_base.specs.declared.wire.fault.DecodeError.TheVariants as errors
use Rattle.link_base.specs.declared.wire.fault.DecodeFault.TheVariants as faults
use Rattle.link_base.specs.declared.wire.fault.Cause.{Cause}
use Rattle.link_base.specs.Frame.{Frame, Frames, IsComplete, bytes_of_frames, frame_fault}
use Rattle.link_base.specs.Buffer.{kind_field_of, payload_of, IsFrameFault, SplitsFirst}

-- the bytes that the iterator has not yet passed
abbrev pub bytes_left : NlasIterator → List ℕ
bytes_left it = it.rest.now

-- if s is left, the next item is the first frame of s or, as the last item, the error in its header; t is left then
abbrev pub NextFrame : List ℕ → Option (Result NlaBuffer DecodeError) → List ℕ → Type 0
NextFrame s None t = (s ≡ []) × (t ≡ [])
NextFrame s (Some (Ok b)) t = SplitsFirst s b t
NextFrame s (Some (Err e)) t = (s ≢ []) × IsFrameFault s e × (t ≡ [])

-- bounds on the number of attributes in s, where an error counts as one: at least one if there are bytes, and at most one
-- for each four bytes, rounded up
abbrev pub least_items : List ℕ → ℕ
least_items s = min (length s) 1

abbrev pub most_items : List ℕ → ℕ
most_items s = (length s + 3) / 4

-- these are the bounds
abbrev pub IsHint : List ℕ → ℕ × Option ℕ → Type 0
IsHint s bounds = (bounds.0 ≡ least_items s) × (bounds.1 ≡ Some (most_items s))

-- a number of attributes within the bounds
abbrev pub IsCount : List ℕ → ℕ → Type 0
IsCount s n = (least_items s ≤ n) × (n ≤ most_items s)

-- the `nla_type` and the payload of an item, or its error
abbrev pub seen : Result NlaBuffer DecodeError → Result (ℕ × List ℕ) DecodeError
seen (Ok b) = Ok (kind_field_of b, payload_of b)
seen (Err e) = Err e

-- a frame as an item
abbrev pub item_of : Frame → Result (ℕ × List ℕ) DecodeError
item_of x = Ok (x.kind_field, x.payload)

-- the items for s: its frames; or the frames before the first malformed header, and that error as the last item
abbrev pub AreItems : List ℕ → List (Result NlaBuffer DecodeError) → Type 0
AreItems s items =
    ((xs : List Frame) × Frames s xs × (map seen items ≡ map item_of xs))
    ⊎ ((xs : List Frame) × (rest : List ℕ) × (c : Cause) × AllByRecursion IsComplete xs × (s ≡ bytes_of_frames xs ++ rest) × (0 < length rest) × (frame_fault rest ≡ Some c)
    × (map seen items ≡ map item_of xs ++ Err (errors.Fault (faults.Frame c)) ∷ []))
