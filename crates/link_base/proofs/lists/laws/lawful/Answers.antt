use Rattle.link_base.proofs.TableLaws.{lawful}
use Rattle.link_base.proofs.lists.laws.lawful.Goals as goal

pub returns : goal.returns
returns c = lawful
