use Rattle.link_base.proofs.ViewWalks.{whole_walk_of_all}
use Rattle.link_base.proofs.views.view_laws.walk_all.Goals as goal

pub returns : goal.returns
returns g c = λ s all items run. whole_walk_of_all {g = g.S.AttributeSet} c.args._all.now s items all run
