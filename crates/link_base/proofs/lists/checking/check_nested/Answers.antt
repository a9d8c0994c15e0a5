use Rattle.link_base.specs.declared.wire.fault.ListError.TheVariants as list_errors
use Rattle.link_base.proofs.Lifted.{nested_fails}
use Rattle.link_base.proofs.Checks.{nested_checked}
use Rattle.link_base.proofs.lists.checking.check_nested.Goals as goal

pub returns-in-Ok : goal.returns-in-Ok
returns-in-Ok g c =
    let list = c.in-Ok.ensures.answer in
    nested_checked g.E.Meaning.table g.E.NestedAttribute.rows g.E.NestedAttribute.FLAGGED c.args.kind c.args.payload.now list.0 g.met.E.NestedAttribute.same_table list.1

pub returns-in-Err : goal.returns-in-Err
returns-in-Err g c =
    let e = c.in-Err.error in
    rw c.nested.ensures (nested_fails g.E.Meaning.table g.E.NestedAttribute.rows g.E.NestedAttribute.FLAGGED c.args.kind c.args.payload.now (list_errors.Fault e.at e.fault) g.met.E.NestedAttribute.same_table c.in-Err.ensures.answer)
