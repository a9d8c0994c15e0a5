use Rattle.link_json.proofs.Lines.{shallow_each, messages_are}
use Rattle.link_json.proofs.laws.shallow_messages.Goals as goal

pub returns : goal.returns
returns c place d more placed s js whole shown =
    shallow_each place d more placed js (messages_are place s js whole shown).1
