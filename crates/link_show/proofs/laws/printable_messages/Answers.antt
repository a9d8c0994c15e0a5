use Rattle.link_show.proofs.MessagePrinting.{messages_texts}
use Rattle.link_show.proofs.laws.printable_messages.Goals as goal

pub returns : goal.returns
returns c = messages_texts
