use Rattle.std.proofs.Common.{length}
use Rattle.std.specs.Option.{option_map}
use Rattle.link_messages.specs.Finding.{stretch_of}
use Rattle.link_messages.specs.BeforeFault.{latest}
use Rattle.link_messages.proofs.Walking.{Reached}
use Rattle.link_messages.proofs.before_fault.last_before_fault.Given as goal

abbrev pub invariant-loop-attribute : goal.invariant-loop-attribute
invariant-loop-attribute l = Reached (latest l.list.at l.kind) l.list.bytes.now (option_map stretch_of l.found) l.rest

abbrev pub decreases-loop-attribute : goal.decreases-loop-attribute
decreases-loop-attribute l = length l.rest
