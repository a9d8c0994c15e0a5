-- The results of a pass over the headers of a list.
use Rattle.std.specs.Prelude.{◌≡◌, ◌⊎◌, ℕ, ◌+◌, ◌<◌, ◌≤◌, List, [], ◌∷◌, ◌++◌, length, drop, slice_index_or, Option, Some, None}
use Rattle.std.specs.List.{AllByRecursion}
use Rattle.link_base.specs.declared.wire.fault.Cause.{Cause}
use Rattle.link_base.specs.Frame.{Frame, Frames, AreFrames, IsComplete, frame_bytes, bytes_of_frames, frame_fault}

-- the offsets of consecutive frames, the first of which is at `at`
abbrev pub starts : ℕ → List Frame → List ℕ
starts at [] = []
starts at (x ∷ xs) = at ∷ starts (at + length (frame_bytes x)) xs

-- these are all frames of s; or those before the first malformed header, and its error with its offset
abbrev pub FramesOrFault : List ℕ → List Frame → Option (ℕ × Cause) → Type 0
FramesOrFault s xs None = Frames s xs
FramesOrFault s xs (Some fault) =
    (rest : List ℕ) × AllByRecursion IsComplete xs × (s ≡ bytes_of_frames xs ++ rest) × (0 < length rest) × (frame_fault rest ≡ Some fault.1) × (fault.0 ≡ length (bytes_of_frames xs))

-- the offsets of the frames in s before `rest`; if `rest` is not empty, all of them are complete
pub record FindsBefore (s : List ℕ) (offsets rest : List ℕ) : Type 0 where
  pub frames : List Frame
  pub string : s ≡ bytes_of_frames frames ++ rest
  pub all : ((rest ≡ []) × AreFrames frames) ⊎ AllByRecursion IsComplete frames
  pub places : offsets ≡ starts 0 frames

-- the offsets of the frames in s, and the first error in a header, with its offset
pub record Finds (s : List ℕ) (offsets : List ℕ) (fault : Option (ℕ × Cause)) : Type 0 where
  pub frames : List Frame
  pub all : FramesOrFault s frames fault
  pub places : offsets ≡ starts 0 frames

-- at each of these offsets, a frame starts in s
abbrev pub BeginFrames : List ℕ → List ℕ → Type 0
BeginFrames s offsets = (i : ℕ) → i < length offsets → (slice_index_or offsets i 0 ≤ length s) × (frame_fault (drop (slice_index_or offsets i 0) s) ≡ None)
