use Rattle.link_base.specs.Class.{Many}
use Rattle.link_base.proofs.Checks.{accepted_one, multiple_accepted}
use Rattle.link_base.proofs.classes.lengths.check_numbers.Goals as goal

pub returns-then-got-width-eq0 : goal.returns-then-got-width-eq0
returns-then-got-width-eq0 c = accepted_one (Many c.args.width) c.args.kind c.args.payload.now (multiple_accepted c.args.width _ c.if-got-width-eq0.true)
