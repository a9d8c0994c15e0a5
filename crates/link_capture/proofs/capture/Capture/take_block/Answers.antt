use Rattle.std.proofs.Common.{Err, sym, ◌∙◌}
use Rattle.link_capture.proofs.Units.{taken_block}
use Rattle.link_capture.proofs.capture.Capture.take_block.Goals as goal

pub returns-in-Ok-clause-taken : goal.returns-in-Ok-clause-taken
returns-in-Ok-clause-taken c =
    taken_block _ c.args.self.now c.args.order c.in-Some.order c.args.unit.now _ c.self.view_is c.requires.form (sym c.in-Some.is ∙ c.order_of.ensures) c.in-Ok.ensures.after

pub returns-in-Err-clause-taken : goal.returns-in-Err-clause-taken
returns-in-Err-clause-taken c =
    taken_block _ c.args.self.now c.args.order c.in-Some.order c.args.unit.now (Err c.in-Err.error) c.self.view_is c.requires.form (sym c.in-Some.is ∙ c.order_of.ensures) c.in-Err.ensures.after
