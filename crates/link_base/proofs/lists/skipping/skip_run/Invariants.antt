use Rattle.std.proofs.Common.{length}
use Rattle.link_base.specs.Table.{Gives}
use Rattle.link_base.specs.Checked.{Passes}
use Rattle.link_base.proofs.lists.skipping.skip_run.Given as goal

abbrev pub invariant-loop-rest : goal.invariant-loop-rest
invariant-loop-rest g l = Passes (Gives g.F.Meaning.table) l.bytes l.count l.rest

abbrev pub decreases-loop-rest : goal.decreases-loop-rest
decreases-loop-rest g l = length l.rest
