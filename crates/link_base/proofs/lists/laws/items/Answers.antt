use Rattle.link_base.proofs.ItemLemmas.{whole_run}
use Rattle.link_base.proofs.lists.laws.items.Goals as goal

pub returns : goal.returns
returns c = whole_run
