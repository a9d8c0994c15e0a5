use Rattle.std.proofs.Common.{◌≡◌, [], arith}
use Rattle.std.proofs.lemmas.Grind.{common_steps}
use Rattle.link_base.specs.Buffer.{kind_field_of, payload_of}
use Rattle.link_base.specs.Viewed.{buffer_in}
use Rattle.link_base.proofs.ViewLemmas.{split_of, split_less, counting_more, counting_all}
use Rattle.link_base.proofs.views.view.View.len.Goals as goal

pub loop-others-preserved : goal.loop-others-preserved
loop-others-preserved g c =
    let b = buffer_in c.in-Some.field-0-0 in
    let rest = c.loop-others.view.rest.now in
    let next = c.in-Some.others.rest.now in
    record {
      counting = counting_more c.args.self.now.rest.now rest next c.loop-others.count (kind_field_of b) (payload_of b) c.loop-others.invariant.counting (split_of rest b next c.in-Some.ensures.0);
      few = omega (arith, c.loop-others.invariant.few, split_less rest b next c.in-Some.ensures.0);
    }

pub returns : goal.returns
returns g c =
    let none : c.loop-others.view.rest.now ≡ [] = grind (arith, common_steps) in
    counting_all c.args.self.now.rest.now c.loop-others.view.rest.now c.loop-others.count c.loop-others.invariant.counting none
