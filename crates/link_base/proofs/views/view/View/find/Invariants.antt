use Rattle.std.proofs.Common.{◌≡◌, length}
use Rattle.std.specs.Prelude.{IfSome}
use Rattle.link_base.specs.Frame.{kind_of}
use Rattle.link_base.specs.Buffer.{kind_field_of}
use Rattle.link_base.specs.Viewed.{seen, buffer_in, set_in}
use Rattle.link_base.proofs.ViewLemmas.{Keeping}
use Rattle.link_base.proofs.views.view.View.find.Given as goal

abbrev pub invariant-loop-value : goal.invariant-loop-value
invariant-loop-value g l = record {
  keeping : Keeping l.kind l.fn.self.rest.now l.view.rest.now (seen l.found);
  kind : IfSome l.found (λ x. kind_of (kind_field_of (buffer_in x)) ≡ l.kind);
  set : IfSome l.found (λ x. set_in x ≡ l.fn.self.set);
  same : l.view.set ≡ l.fn.self.set;
}

abbrev pub decreases-loop-value : goal.decreases-loop-value
decreases-loop-value g l = length l.view.rest.now
