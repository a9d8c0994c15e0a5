use Rattle.std.proofs.Common.{◌≡◌, ◌≤◌, None, length}
use Rattle.link_base.specs.FrameOffsets.{FindsBefore}
use Rattle.link_base.specs.FrameTableParts.{offsets_of, walked_bytes, fault_of}
use Rattle.link_base.proofs.wire.frame_table.FrameTable.find_frames.Given as goal

abbrev pub invariant-loop-place : goal.invariant-loop-place
invariant-loop-place l = record {
  same : walked_bytes l.self ≡ l.bytes;
  before : FindsBefore l.bytes (offsets_of l.self) l.rest;
  no_fault : fault_of l.self ≡ None;
  many : length (offsets_of l.self) ≡ l._place;
  room : 8 ≤ l.self.offsets.capacity;
}
