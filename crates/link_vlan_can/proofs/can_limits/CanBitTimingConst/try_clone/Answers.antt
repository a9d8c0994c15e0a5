use Rattle.std.proofs.Common.{rules}
use Rattle.link_vlan_can.proofs.can_limits.CanBitTimingConst.try_clone.Goals as goal

pub returns-clause-copy : goal.returns-clause-copy
returns-clause-copy c = search rules

pub returns-clause-equal : goal.returns-clause-equal
returns-clause-equal c = search rules
