use Rattle.std.proofs.Common.{ap, ◌∙◌}
use Rattle.link_messages.specs.BeforeFault.{name_in}
use Rattle.link_show.proofs.links.link_name.Goals as goal

pub returns : goal.returns
returns c = λ items fault walk. c.text_of.ensures ∙ ap name_in (c.last_before_fault.ensures.last items fault walk)
