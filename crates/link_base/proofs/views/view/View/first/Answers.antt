use Rattle.std.proofs.Common.{◌≡◌, ◌≢◌, [], ◌∙◌, arith}
use Rattle.std.proofs.lemmas.Grind.{common_steps}
use Rattle.link_base.specs.Frame.{kind_of}
use Rattle.link_base.specs.Buffer.{kind_field_of, payload_of}
use Rattle.link_base.specs.Viewed.{buffer_in}
use Rattle.link_base.proofs.ViewLemmas.{split_of, seeking_more, seeking_met, seeking_all}
use Rattle.link_base.proofs.views.view.View.first.Goals as goal

pub returns-then-kind-clause-first : goal.returns-then-kind-clause-first
returns-then-kind-clause-first g c =
    let b = buffer_in c.in-Some.value in
    let rest = c.loop-value.view.rest.now in
    let next = c.in-Some.others.rest.now in
    let is : kind_of (kind_field_of b) ≡ c.args.kind = grind (arith, common_steps) in
    seeking_met c.args.kind c.args.self.now.rest.now rest next (kind_field_of b) (payload_of b) c.loop-value.invariant.seeking (split_of rest b next c.in-Some.ensures.0) is

pub loop-value-preserved : goal.loop-value-preserved
loop-value-preserved g c =
    let b = buffer_in c.in-Some.value in
    let rest = c.loop-value.view.rest.now in
    let next = c.in-Some.others.rest.now in
    let other : kind_of (kind_field_of b) ≢ c.args.kind = λ e. grind (arith, common_steps) in
    record {
      seeking = seeking_more c.args.kind c.args.self.now.rest.now rest next (kind_field_of b) (payload_of b) c.loop-value.invariant.seeking (split_of rest b next c.in-Some.ensures.0) other;
      set = c.in-Some.ensures.2 ∙ c.loop-value.invariant.set;
    }

pub returns-clause-first : goal.returns-clause-first
returns-clause-first g c =
    let none : c.loop-value.view.rest.now ≡ [] = grind (arith, common_steps) in
    seeking_all c.args.kind c.args.self.now.rest.now c.loop-value.view.rest.now c.loop-value.invariant.seeking none
