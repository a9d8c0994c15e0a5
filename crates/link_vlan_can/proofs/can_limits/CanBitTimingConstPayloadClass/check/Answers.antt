use Rattle.std.proofs.Common.{refl}
use Rattle.link_base.specs.Class.{Limits}
use Rattle.link_vlan_can.proofs.can_limits.CanBitTimingConstPayloadClass.check.Goals as goal

pub returns : goal.returns
returns c = c.check.ensures Limits refl
