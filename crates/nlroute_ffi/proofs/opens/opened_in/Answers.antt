use Rattle.std.proofs.Common.{subst}
use Rattle.nlroute_ffi.proofs.Openings.{IsFound, opens_none, opens_some}
use Rattle.nlroute_ffi.proofs.opens.opened_in.Goals as goal

pub returns-in-Some : goal.returns-in-Some
returns-in-Some c =
    let e = c.args.value.now in
    let found = subst (IsFound e c.args.list.now) c.in-Some.is c.attribute_around.ensures in
    opens_some c.args.context.now c.args.family e c.args.list.now c.in-Some.around c.opened_among.result found c.opened_among.ensures

pub returns-in-None : goal.returns-in-None
returns-in-None c =
    let e = c.args.value.now in
    opens_none c.args.context.now c.args.family e c.args.list.now (subst (IsFound e c.args.list.now) c.in-None.is c.attribute_around.ensures)
