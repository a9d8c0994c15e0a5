use Rattle.std.proofs.Common.{refl}
use Rattle.link_base.specs.Class.{Optional}
use Rattle.link_base.proofs.classes.flag_or_bool.OptionBoolPayloadClass.check.Goals as goal

pub returns : goal.returns
returns c = c.check.ensures Optional refl
