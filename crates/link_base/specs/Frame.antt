-- Frames: how bytes are split into attributes.
use Rattle.std.specs.Prelude.{◌≡◌, ℕ, ◌+◌, ◌-◌, ◌*◌, ◌/◌, ◌%◌, ◌<◌, ◌≤◌, List, [], ◌∷◌, ◌++◌, length, take, Option, Some, None, nat_lt, if◌then◌else◌}
use Rattle.std.specs.List.{flat_map}
use Rattle.link_base.specs.Number.{number, bytes_of}
use Rattle.link_base.specs.declared.wire.fault.Cause.{Cause}
use Rattle.link_base.specs.declared.wire.fault.Cause.TheVariants.{ShortFrame, SmallLength, Overrun}

-- n, rounded up to a multiple of four (`NLA_ALIGN`)
abbrev pub pad : ℕ → ℕ
pad n = (n + 3) / 4 * 4

-- the number of attribute types: `nla_type` has 14 bits for the type (`NLA_TYPE_MASK`)
abbrev pub kind_limit : ℕ
kind_limit = 16384

-- the attribute type in `nla_type`, without the two flags
abbrev pub kind_of : ℕ → ℕ
kind_of f = f % kind_limit

-- the maximum length of a payload: `nla_len` has 16 bits, and counts the four bytes of the header
abbrev pub max_payload : ℕ
max_payload = 65531

-- an attribute in a list: `nla_type`, the payload, and the padding that follows
pub record Frame : Type 0 where
  pub kind_field : ℕ
  pub payload : List ℕ
  pub padding : List ℕ

-- the length of complete padding after this payload
abbrev pub gap : List ℕ → ℕ
gap payload = pad (4 + length payload) - (4 + length payload)

-- the bytes of a frame: `nla_len`, which does not count the padding, `nla_type`, the payload, the padding
abbrev pub frame_bytes : Frame → List ℕ
frame_bytes x = bytes_of 2 (4 + length x.payload) ++ (bytes_of 2 x.kind_field ++ (x.payload ++ x.padding))

-- the bytes of consecutive frames
abbrev pub bytes_of_frames : List Frame → List ℕ
bytes_of_frames xs = flat_map frame_bytes xs

-- the header's numbers are in range, and the padding is at most complete
pub record IsFrame (x : Frame) : Type 0 where
  pub kind_field : x.kind_field < 65536
  pub payload : length x.payload ≤ max_payload
  pub padding : length x.padding ≤ gap x.payload

-- a frame with complete padding
pub record IsComplete (x : Frame) : Type 0 where
  pub kind_field : x.kind_field < 65536
  pub payload : length x.payload ≤ max_payload
  pub padding : length x.padding ≡ gap x.payload

-- these are frames, and all except the last are complete
abbrev pub AreFrames : List Frame → Type 0
AreFrames [] = Unit {0}
AreFrames (x ∷ []) = IsFrame x
AreFrames (x ∷ y ∷ xs) = IsComplete x × AreFrames (y ∷ xs)

-- s consists of these consecutive frames
pub record Frames (s : List ℕ) (xs : List Frame) : Type 0 where
  pub frames : AreFrames xs
  pub string : s ≡ bytes_of_frames xs

-- why r does not start with a frame; `None` if it does
abbrev pub frame_fault : List ℕ → Option Cause
frame_fault r =
    let stated = number (take 2 r) in
    if nat_lt (length r) 4 then Some (ShortFrame (length r))
    else (if nat_lt stated 4 then Some (SmallLength stated)
    else (if nat_lt (length r) stated then Some (Overrun stated (length r))
    else None))

-- s starts with this frame
pub record BeginsWith (s : List ℕ) (x : Frame) : Type 0 where
  pub rest : List ℕ
  pub is : IsFrame x
  pub string : s ≡ frame_bytes x ++ rest

-- a frame without padding
abbrev pub bare : ℕ → List ℕ → Frame
bare f p = record { kind_field = f; payload = p; padding = [] }
