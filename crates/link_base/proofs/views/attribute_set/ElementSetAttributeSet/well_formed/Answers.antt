use Rattle.link_base.specs.Viewed.{list_of}
use Rattle.link_base.proofs.Coherence.{elements_formed}
use Rattle.link_base.proofs.views.attribute_set.ElementSetAttributeSet.well_formed.Goals as goal

pub returns : goal.returns
returns g c = elements_formed g.F.Meaning.table (list_of c.args.self.now) g.met.F.Attribute.well_formed
