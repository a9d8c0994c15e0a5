use Rattle.std.proofs.Common.{sym, ◌∙◌}
use Rattle.link_capture.specs.Block.{Describes}
use Rattle.link_capture.proofs.pcapng.read_block.Goals as goal

pub returns-in-1-clause-after : goal.returns-in-1-clause-after
returns-in-1-clause-after c = Describes (sym c.u32_at-last.ensures ∙ c.if-last-first.false) (sym c.u32_at.ensures ∙ c.in-1.is) c.read_interface.ensures.after
