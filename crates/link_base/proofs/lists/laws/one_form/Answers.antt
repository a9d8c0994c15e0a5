use Rattle.std.specs.Prelude.{[]}
use Rattle.link_base.proofs.TableLaws.{lawful}
use Rattle.link_base.proofs.lists.laws.one_form.Goals as goal

-- the written form does not depend on a table, so any table will do
pub returns : goal.returns
returns c = (lawful []).holding.one_form
