use Rattle.std.proofs.Common.{refl, sym, ap, ◌∙◌}
use Rattle.link_capture.specs.Front.{front_of}
use Rattle.link_capture.proofs.Nexts.{start_wrong}
use Rattle.link_capture.proofs.capture.Capture.next.Goals as goal

pub returns-in-Wrong : goal.returns-in-Wrong
returns-in-Wrong c =
    (refl, start_wrong c.args.self.now c.args.bytes.now c.args.is_last c.in-Wrong.error (ap (λ s. front_of s.form c.args.bytes.now) (sym c.self.view_is) ∙ sym c.in-Wrong.ensures))
