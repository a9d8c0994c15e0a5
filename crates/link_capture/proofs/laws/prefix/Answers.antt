use Rattle.link_capture.proofs.Longer.{reads_kept}
use Rattle.link_capture.proofs.laws.prefix.Goals as goal

pub returns : goal.returns
returns c = reads_kept
