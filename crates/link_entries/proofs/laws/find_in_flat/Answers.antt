use Rattle.link_entries.proofs.EntryFields.{found_in_flat}
use Rattle.link_entries.proofs.laws.find_in_flat.Goals as goal

pub returns : goal.returns
returns c = λ table k list found es finds flat. found_in_flat table k list found es finds.1 flat
