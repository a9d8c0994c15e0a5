use Rattle.std.proofs.Common.{refl}
use Rattle.link_base.specs.Class.{Bytes}
use Rattle.link_base.proofs.classes.shown.ShownPayloadClass.check.Goals as goal

pub returns : goal.returns
returns g c = c.check.ensures Bytes refl
