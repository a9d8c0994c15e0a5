use Rattle.std.proofs.Common.{◌≡◌, length}
use Rattle.link_base.proofs.ViewLemmas.{Seeking}
use Rattle.link_base.proofs.views.view.View.first.Given as goal

abbrev pub invariant-loop-value : goal.invariant-loop-value
invariant-loop-value g l = record {
  seeking : Seeking l.kind l.fn.self.rest.now l.view.rest.now;
  set : l.view.set ≡ l.fn.self.set;
}

abbrev pub decreases-loop-value : goal.decreases-loop-value
decreases-loop-value g l = length l.view.rest.now
