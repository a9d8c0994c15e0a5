-- One frame of a list, as `NlaBuffer` represents it.
use Rattle.std.specs.Prelude.{◌≡◌, ℕ, ◌+◌, List, Some, min, length, drop}
use Rattle.link_base.specs.declared.wire.buffer.NlaBuffer.{NlaBuffer}
use Rattle.link_base.specs.declared.wire.fault.DecodeError.{DecodeError}
use Rattle.link_base.specs.declared.wire.fault.DecodeError.TheVariants as errors
use Rattle.link_base.specs.declared.wire.fault.DecodeFault.TheVariants as faults
use Rattle.link_base.specs.declared.wire.fault.Cause.{Cause}
use Rattle.link_base.specs.Frame.{Frame, BeginsWith, bare, pad, frame_fault}
use Rattle.link_base.specs.Table.{Shape, allows_by}

-- `nla_type`, including its two flags
abbrev pub kind_field_of : NlaBuffer → ℕ
kind_field_of b = b.kind_field

-- the bytes after the header, without padding
abbrev pub payload_of : NlaBuffer → List ℕ
payload_of b = b.payload.now

-- the frame, without padding
abbrev pub frame_of : NlaBuffer → Frame
frame_of b = bare (kind_field_of b) (payload_of b)

-- the error is `Frame` with the reason why r does not start with a frame
abbrev pub IsFrameFault : List ℕ → DecodeError → Type 0
IsFrameFault r e = (c : Cause) × (frame_fault r ≡ Some c) × (e ≡ errors.Fault (faults.Frame c))

-- s starts with the frame, and t follows it and its padding; if the padding is truncated, t is empty
abbrev pub SplitsFirst : List ℕ → NlaBuffer → List ℕ → Type 0
SplitsFirst s b t = BeginsWith s (frame_of b) × (t ≡ drop (min (pad (4 + length (payload_of b))) (length s)) s)

-- the attribute is canonical as a value of this shape
abbrev pub IsCanonicalAs : Shape → NlaBuffer → Type 0
IsCanonicalAs shape b = allows_by (Some shape) (kind_field_of b) (payload_of b)
