-- The parts of a `FrameTable`.
use Rattle.std.specs.Prelude.{ℕ, List, drop, Option, slice_index_or}
use Rattle.link_base.specs.declared.wire.fault.Cause.{Cause}
use Rattle.link_base.specs.declared.wire.buffer.NlaBuffer.{NlaBuffer}
use Rattle.link_base.specs.declared.wire.frame_table.FrameTable.{FrameTable}
use Rattle.link_base.specs.Frame.{BeginsWith}
use Rattle.link_base.specs.Buffer.{frame_of}

-- the bytes of the list
abbrev pub walked_bytes : FrameTable → List ℕ
walked_bytes t = t.bytes.now

-- the offsets of the frames
abbrev pub offsets_of : FrameTable → List ℕ
offsets_of t = t.offsets.items

-- the first error in a header, with its offset
abbrev pub fault_of : FrameTable → Option (ℕ × Cause)
fault_of t = t.fault

-- b is frame i of the table, zero-based
abbrev pub IsFrameAt : FrameTable → ℕ → NlaBuffer → Type 0
IsFrameAt t i b = BeginsWith (drop (slice_index_or (offsets_of t) i 0) (walked_bytes t)) (frame_of b)
