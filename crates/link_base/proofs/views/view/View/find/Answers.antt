use Rattle.std.proofs.Common.{◌≡◌, ◌≢◌, [], ◌∙◌, arith}
use Rattle.std.proofs.lemmas.Grind.{common_steps}
use Rattle.link_base.specs.Frame.{kind_of}
use Rattle.link_base.specs.Buffer.{kind_field_of, payload_of}
use Rattle.link_base.specs.Viewed.{buffer_in, seen}
use Rattle.link_base.proofs.ViewLemmas.{split_of, keeping_more, keeping_met, keeping_all}
use Rattle.link_base.proofs.views.view.View.find.Goals as goal

pub loop-value-preserved-then-kind : goal.loop-value-preserved-then-kind
loop-value-preserved-then-kind g c =
    let b = buffer_in c.in-Some.value in
    let rest = c.loop-value.view.rest.now in
    let next = c.in-Some.others.rest.now in
    let is : kind_of (kind_field_of b) ≡ c.args.kind = grind (arith, common_steps) in
    record {
      keeping = keeping_met c.args.kind c.args.self.now.rest.now rest next (seen c.loop-value.found) (kind_field_of b) (payload_of b) c.loop-value.invariant.keeping (split_of rest b next c.in-Some.ensures.0) is;
      kind = is;
      set = c.in-Some.ensures.1 ∙ c.loop-value.invariant.same;
      same = c.in-Some.ensures.2 ∙ c.loop-value.invariant.same;
    }

pub loop-value-preserved : goal.loop-value-preserved
loop-value-preserved g c =
    let b = buffer_in c.in-Some.value in
    let rest = c.loop-value.view.rest.now in
    let next = c.in-Some.others.rest.now in
    let other : kind_of (kind_field_of b) ≢ c.args.kind = λ e. grind (arith, common_steps) in
    record {
      keeping = keeping_more c.args.kind c.args.self.now.rest.now rest next (seen c.loop-value.found) (kind_field_of b) (payload_of b) c.loop-value.invariant.keeping (split_of rest b next c.in-Some.ensures.0) other;
      kind = c.loop-value.invariant.kind;
      set = c.loop-value.invariant.set;
      same = c.in-Some.ensures.2 ∙ c.loop-value.invariant.same;
    }

pub returns-clause-last : goal.returns-clause-last
returns-clause-last g c =
    let none : c.loop-value.view.rest.now ≡ [] = grind (arith, common_steps) in
    keeping_all c.args.kind c.args.self.now.rest.now c.loop-value.view.rest.now (seen c.loop-value.found) c.loop-value.invariant.keeping none
