use Rattle.link_base.proofs.ViewWalks.{first_other_starts}
use Rattle.link_base.proofs.views.view_laws.first_other.Goals as goal

pub returns : goal.returns
returns c = first_other_starts
