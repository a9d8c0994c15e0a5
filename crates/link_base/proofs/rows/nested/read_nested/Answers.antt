use Rattle.std.proofs.Common.{map}
use Rattle.link_base.proofs.Lifted.{nested_values, nested_fails, map-lift}
use Rattle.link_base.proofs.rows.nested.read_nested.Goals as goal

pub returns-in-Ok-clause-answer : goal.returns-in-Ok-clause-answer
returns-in-Ok-clause-answer g c =
    let means = g.E.Meaning.means in
    let leaf = g.E.NestedAttribute.leaf in
    let xs = c.in-Ok.values.items in
    nested_values g.E.Meaning.table g.E.NestedAttribute.rows g.E.NestedAttribute.FLAGGED c.args.kind c.args.payload.now (map means xs) (map leaf xs) g.met.E.NestedAttribute.same_table (map-lift means leaf g.met.E.NestedAttribute.same_means xs) c.in-Ok.ensures.answer

pub returns-in-Err-clause-answer : goal.returns-in-Err-clause-answer
returns-in-Err-clause-answer g c =
    rw c.nested.ensures (nested_fails g.E.Meaning.table g.E.NestedAttribute.rows g.E.NestedAttribute.FLAGGED c.args.kind c.args.payload.now c.in-Err.error g.met.E.NestedAttribute.same_table c.in-Err.ensures.answer)
