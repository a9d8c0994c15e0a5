use Rattle.link_show.proofs.HeldPrinting.{checked_texts}
use Rattle.link_show.proofs.laws.printable_lists.Goals as goal

pub returns : goal.returns
returns c = checked_texts
