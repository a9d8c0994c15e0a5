use Rattle.link_base.proofs.Readings.{reads_some, reads_one}
use Rattle.link_base.proofs.TableLaws.{lawful}
use Rattle.link_base.proofs.lists.laws.one_reading.Goals as goal

pub returns-clause-either : goal.returns-clause-either
returns-clause-either c = λ table s hs. reads_some (lawful table).reading s hs

pub returns-clause-only : goal.returns-clause-only
returns-clause-only c = λ table s q r a b. reads_one (lawful table).reading s q r a b
