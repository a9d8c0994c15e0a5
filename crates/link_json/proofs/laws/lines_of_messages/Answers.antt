use Rattle.link_json.proofs.Lines.{each_line, messages_are}
use Rattle.link_json.proofs.laws.lines_of_messages.Goals as goal

pub returns : goal.returns
returns c place is s js whole shown =
    each_line is js (messages_are place s js whole shown).1
