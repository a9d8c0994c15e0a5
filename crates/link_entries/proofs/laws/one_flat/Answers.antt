use Rattle.link_entries.proofs.Unique.{one_flat}
use Rattle.link_entries.proofs.laws.one_flat.Goals as goal

pub returns : goal.returns
returns c = one_flat
