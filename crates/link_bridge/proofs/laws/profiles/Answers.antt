use Rattle.std.proofs.Common.{refl}
use Rattle.link_base.proofs.EditionLemmas.{editions}
use Rattle.link_bridge.specs.BridgePort.{bridge_port_added, bridge_port_table}
use Rattle.link_bridge.proofs.laws.profiles.Goals as goal

pub returns : goal.returns
returns c = editions bridge_port_added bridge_port_table refl
