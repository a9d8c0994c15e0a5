use Rattle.std.proofs.Common.{refl}
use Rattle.link_base.proofs.EditionLemmas.{editions}
use Rattle.link_vlan_can.specs.Can.{can_added, can_table}
use Rattle.link_vlan_can.proofs.laws.profiles.Goals as goal

pub returns : goal.returns
returns c = editions can_added can_table refl
