use Rattle.std.proofs.Common.{◌+◌, ◌≤◌, length}
use Rattle.link_base.proofs.ViewLemmas.{Counting}
use Rattle.link_base.proofs.views.view.View.len.Given as goal

abbrev pub invariant-loop-others : goal.invariant-loop-others
invariant-loop-others g l = record {
  counting : Counting l.fn.self.rest.now l.view.rest.now l.count;
  few : l.count + length l.view.rest.now ≤ length l.fn.self.rest.now;
}

abbrev pub decreases-loop-others : goal.decreases-loop-others
decreases-loop-others g l = length l.view.rest.now
