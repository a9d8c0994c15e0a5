use Rattle.std.proofs.Common.{length}
use Rattle.link_messages.proofs.Walking.{Reached}
use Rattle.nlroute_ffi.proofs.Around.{found_among}
use Rattle.nlroute_ffi.proofs.opens.attribute_around.Given as goal

abbrev pub invariant-loop-rest : goal.invariant-loop-rest
invariant-loop-rest l = Reached (found_among l.kind l.offset) l.list l.found l.rest

abbrev pub decreases-loop-rest : goal.decreases-loop-rest
decreases-loop-rest l = length l.rest
