use Rattle.std.proofs.Common.{◌≢◌, ◌+◌, [], length, min, sym, ap, subst, arith}
use Rattle.std.proofs.lemmas.List.{length-drop}
use Rattle.std.proofs.lemmas.Grind.{common_steps}
use Rattle.link_base.specs.Frame.{pad}
use Rattle.link_base.specs.Buffer.{kind_field_of, payload_of}
use Rattle.link_base.proofs.FrameAtFront.{Splits, splits}
use Rattle.link_base.proofs.ViewLemmas.{values_header, values_first, values_rest}
use Rattle.link_base.proofs.views.view.View.split_first.Goals as goal

pub at_front-buffer-requires : goal.at_front-buffer-requires
at_front-buffer-requires g c =
    let some : c.args.self.now.rest.now ≢ [] = λ e. grind (arith, common_steps) in
    values_header (g.S.AttributeSet.rows c.args.self.now.set) c.args.self.now.rest.now c.args.self.now.sound some

pub invariant_of-result : goal.invariant_of-result
invariant_of-result g c =
    let s = c.args.self.now.rest.now in
    let b = c.at_front-buffer.result in
    let f = kind_field_of b in
    let p = payload_of b in
    record { decodes = values_first (g.S.AttributeSet.rows c.args.self.now.set) s f p _ c.args.self.now.sound (splits s f p c.at_front-buffer.ensures) }

pub invariant_of-result-2 : goal.invariant_of-result-2
invariant_of-result-2 g c =
    let s = c.args.self.now.rest.now in
    let b = c.at_front-buffer.result in
    let f = kind_field_of b in
    let p = payload_of b in
    record {
      sound = values_rest (g.S.AttributeSet.rows c.args.self.now.set) s f p c.step_over-rest.result.now c.args.self.now.sound
          (subst (Splits s f p) (sym c.step_over-rest.ensures) (splits s f p c.at_front-buffer.ensures));
      within = omega (arith, c.args.self.now.within, ap length c.step_over-rest.ensures, length-drop (min (pad (4 + length p)) (length s)) s);
    }
