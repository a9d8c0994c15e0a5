use Rattle.link_base.specs.Viewed.{set_of}
use Rattle.link_base.proofs.ViewWalks.{whole_walk}
use Rattle.link_base.proofs.views.view_laws.walk.Goals as goal

pub returns : goal.returns
returns g c = λ items run. whole_walk (g.S.AttributeSet.rows (set_of c.args._view.now)) c.args._view.now items run
