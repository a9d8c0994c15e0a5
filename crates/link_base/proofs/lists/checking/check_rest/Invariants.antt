use Rattle.std.proofs.Common.{length}
use Rattle.link_base.specs.Table.{Gives}
use Rattle.link_base.specs.Checked.{Passes}
use Rattle.link_base.proofs.lists.checking.check_rest.Given as goal

abbrev pub invariant-loop-frame : goal.invariant-loop-frame
invariant-loop-frame g l = Passes (Gives g.F.Meaning.table) l.bytes l.count l.rest

abbrev pub decreases-loop-frame : goal.decreases-loop-frame
decreases-loop-frame g l = length l.rest
