use Rattle.link_capture.proofs.Forms.{form_kept, begun}
use Rattle.link_capture.proofs.laws.known_form.Goals as goal

pub returns-clause-known : goal.returns-clause-known
returns-clause-known c = form_kept

pub returns-clause-begun : goal.returns-clause-begun
returns-clause-begun c = begun
