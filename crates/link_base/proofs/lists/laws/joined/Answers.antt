use Rattle.link_base.specs.Table.{Gives}
use Rattle.link_base.proofs.JoinedLemmas.{joined_values, joined_fault}
use Rattle.link_base.proofs.lists.laws.joined.Goals as goal

pub returns-clause-values : goal.returns-clause-values
returns-clause-values g c = λ a b vs ws e w u. joined_values (Gives g.F.Meaning.table) a b vs ws e w u

pub returns-clause-fault : goal.returns-clause-fault
returns-clause-fault g c = λ a b vs at fault e w h. joined_fault (Gives g.F.Meaning.table) a b vs at fault e w h
