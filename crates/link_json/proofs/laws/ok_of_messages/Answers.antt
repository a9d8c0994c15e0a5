use Rattle.link_json.proofs.Lines.{messages_are}
use Rattle.link_json.proofs.laws.ok_of_messages.Goals as goal

pub returns : goal.returns
returns c place s js whole shown = (messages_are place s js whole shown).0
