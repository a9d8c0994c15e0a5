use Rattle.std.proofs.Common.{refl}
use Rattle.link_base.specs.Class.{Headed}
use Rattle.link_base.proofs.classes.peer.PeerPayloadClass.check.Goals as goal

pub returns : goal.returns
returns c = c.check.ensures (Headed 16) refl
