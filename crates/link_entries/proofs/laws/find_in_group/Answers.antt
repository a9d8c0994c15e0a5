use Rattle.link_entries.proofs.FoundElements.{found_in_group}
use Rattle.link_entries.proofs.laws.find_in_group.Goals as goal

pub returns : goal.returns
returns c = found_in_group
