use Rattle.std.proofs.Common.{length}
use Rattle.link_base.specs.FrameOffsets.{BeginFrames, FindsBefore}
use Rattle.link_base.proofs.wire.frame_table.put_down.Given as goal

abbrev pub invariant-loop-rest : goal.invariant-loop-rest
invariant-loop-rest l = record {
  before : FindsBefore l.bytes l.offsets.items l.rest;
  begin : BeginFrames l.bytes l.offsets.items;
}

abbrev pub decreases-loop-rest : goal.decreases-loop-rest
decreases-loop-rest l = length l.rest
