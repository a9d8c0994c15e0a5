use Rattle.std.proofs.Common.{Ok, Err, refl, subst, rules, arith}
use Rattle.link_capture.specs.Block.{Read}
use Rattle.link_capture.specs.Options.{IsClock}
use Rattle.link_capture.proofs.pcapng.read_interface.Goals as goal

pub returns-in-Ok-clause-after : goal.returns-in-Ok-clause-after
returns-in-Ok-clause-after c =
    Read c.if-length-lt20.false (λ e. grind (arith, e, c.if-is_full.false, c.is_full.ensures.value)) (Ok c.in-Ok.clock) (subst (λ s. IsClock c.args.order s (Ok c.in-Ok.clock)) c.options_in.ensures c.in-Ok.ensures)
    (rw (c.push.ensures.items, c.u16_at-link_type.ensures) refl)

pub returns-in-Err-clause-after : goal.returns-in-Err-clause-after
returns-in-Err-clause-after c =
    Read c.if-length-lt20.false (λ e. search rules) (Err c.in-Err.error) (subst (λ s. IsClock c.args.order s (Err c.in-Err.error)) c.options_in.ensures c.in-Err.ensures) refl
