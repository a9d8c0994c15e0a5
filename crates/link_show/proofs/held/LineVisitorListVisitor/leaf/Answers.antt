use Rattle.link_show.proofs.HeldLines.{state_long}
use Rattle.link_show.proofs.held.LineVisitorListVisitor.leaf.Goals as goal

pub write_leaf-requires : goal.write_leaf-requires
write_leaf-requires g c = state_long c.args.context.now c.args.family c.args.list c.args.buffer c.is_state-state.result c.is_state-state.ensures

pub returns : goal.returns
returns g c = rw (c.is_state-state.ensures, c.indent.ensures, c.requires.known.label) at c.write_leaf.ensures
