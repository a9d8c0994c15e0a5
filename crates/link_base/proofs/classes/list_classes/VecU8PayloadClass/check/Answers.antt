use Rattle.std.proofs.Common.{refl}
use Rattle.link_base.specs.Class.{Bytes}
use Rattle.link_base.proofs.classes.list_classes.VecU8PayloadClass.check.Goals as goal

pub returns : goal.returns
returns c = c.check.ensures Bytes refl
