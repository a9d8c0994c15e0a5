use Rattle.link_base.proofs.Checks.{elements_checked, elements_rejected}
use Rattle.link_base.proofs.lists.checking.check_elements.Goals as goal

pub returns-in-Ok : goal.returns-in-Ok
returns-in-Ok c n = elements_checked n c.args.kind c.args.payload.now c.in-Ok.ensures.answer.0 c.in-Ok.ensures.answer.1

pub returns-in-Err : goal.returns-in-Err
returns-in-Err c n = rw c.nested.ensures (elements_rejected n c.args.kind c.args.payload.now c.in-Err.error.at c.in-Err.error.fault c.in-Err.ensures.answer)
