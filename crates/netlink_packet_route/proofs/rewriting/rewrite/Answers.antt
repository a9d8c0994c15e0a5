-- In each arm the family's table is that of the type. The search finds this for the other clauses; for a long table it
-- would take too many steps here. tools/made.py writes a part for each family.
use Rattle.std.proofs.Common.{◌≡◌}
use Rattle.netlink_packet_route.proofs.rewriting.rewrite.Goals as goal

pub returns-in-AfSpecBridge-clause-answer : goal.returns-in-AfSpecBridge-clause-answer
returns-in-AfSpecBridge-clause-answer c = rw c.in-AfSpecBridge.is c.rewrite_as.ensures.answer

pub returns-in-Bond-clause-answer : goal.returns-in-Bond-clause-answer
returns-in-Bond-clause-answer c = rw c.in-Bond.is c.rewrite_as-in-Bond.ensures.answer

pub returns-in-BondPort-clause-answer : goal.returns-in-BondPort-clause-answer
returns-in-BondPort-clause-answer c = rw c.in-BondPort.is c.rewrite_as-in-BondPort.ensures.answer

pub returns-in-Bridge-clause-answer : goal.returns-in-Bridge-clause-answer
returns-in-Bridge-clause-answer c = rw c.in-Bridge.is c.rewrite_as-in-Bridge.ensures.answer

pub returns-in-BridgePort-clause-answer : goal.returns-in-BridgePort-clause-answer
returns-in-BridgePort-clause-answer c = rw c.in-BridgePort.is c.rewrite_as-in-BridgePort.ensures.answer

pub returns-in-Vlan-clause-answer : goal.returns-in-Vlan-clause-answer
returns-in-Vlan-clause-answer c = rw c.in-Vlan.is c.rewrite_as-in-Vlan.ensures.answer

pub returns-in-Can-clause-answer : goal.returns-in-Can-clause-answer
returns-in-Can-clause-answer c = rw c.in-Can.is c.rewrite_as-in-Can.ensures.answer

pub returns-in-Dsa-clause-answer : goal.returns-in-Dsa-clause-answer
returns-in-Dsa-clause-answer c = rw c.in-Dsa.is c.rewrite_as-in-Dsa.ensures.answer

pub returns-in-Hsr-clause-answer : goal.returns-in-Hsr-clause-answer
returns-in-Hsr-clause-answer c = rw c.in-Hsr.is c.rewrite_as-in-Hsr.ensures.answer

pub returns-in-ProtoBridge-clause-answer : goal.returns-in-ProtoBridge-clause-answer
returns-in-ProtoBridge-clause-answer c = rw c.in-ProtoBridge.is c.rewrite_as-in-ProtoBridge.ensures.answer

pub returns-in-Vxlan-clause-answer : goal.returns-in-Vxlan-clause-answer
returns-in-Vxlan-clause-answer c = rw c.in-Vxlan.is c.rewrite_as-in-Vxlan.ensures.answer

pub returns-in-Link-clause-answer : goal.returns-in-Link-clause-answer
returns-in-Link-clause-answer c = rw c.in-Link.is c.rewrite_as-in-Link.ensures.answer

pub returns-in-AfSpec-clause-answer : goal.returns-in-AfSpec-clause-answer
returns-in-AfSpec-clause-answer c = rw c.in-AfSpec.is c.rewrite_as-in-AfSpec.ensures.answer

pub returns-in-Inet-clause-answer : goal.returns-in-Inet-clause-answer
returns-in-Inet-clause-answer c = rw c.in-Inet.is c.rewrite_as-in-Inet.ensures.answer

pub returns-in-Inet6-clause-answer : goal.returns-in-Inet6-clause-answer
returns-in-Inet6-clause-answer c = rw c.in-Inet6.is c.rewrite_as-in-Inet6.ensures.answer

pub returns-in-Mctp-clause-answer : goal.returns-in-Mctp-clause-answer
returns-in-Mctp-clause-answer c = rw c.in-Mctp.is c.rewrite_as-in-Mctp.ensures.answer

pub returns-in-Reply-clause-answer : goal.returns-in-Reply-clause-answer
returns-in-Reply-clause-answer c = rw c.in-Reply.is c.rewrite_as-in-Reply.ensures.answer

pub returns-in-Geneve-clause-answer : goal.returns-in-Geneve-clause-answer
returns-in-Geneve-clause-answer c = rw c.in-Geneve.is c.rewrite_as-in-Geneve.ensures.answer

pub returns-in-Vrf-clause-answer : goal.returns-in-Vrf-clause-answer
returns-in-Vrf-clause-answer c = rw c.in-Vrf.is c.rewrite_as-in-Vrf.ensures.answer

pub returns-in-VrfPort-clause-answer : goal.returns-in-VrfPort-clause-answer
returns-in-VrfPort-clause-answer c = rw c.in-VrfPort.is c.rewrite_as-in-VrfPort.ensures.answer

pub returns-in-Tun-clause-answer : goal.returns-in-Tun-clause-answer
returns-in-Tun-clause-answer c = rw c.in-Tun.is c.rewrite_as-in-Tun.ensures.answer

pub returns-in-IpVlan-clause-answer : goal.returns-in-IpVlan-clause-answer
returns-in-IpVlan-clause-answer c = rw c.in-IpVlan.is c.rewrite_as-in-IpVlan.ensures.answer

pub returns-in-MacVlan-clause-answer : goal.returns-in-MacVlan-clause-answer
returns-in-MacVlan-clause-answer c = rw c.in-MacVlan.is c.rewrite_as-in-MacVlan.ensures.answer

pub returns-in-Netkit-clause-answer : goal.returns-in-Netkit-clause-answer
returns-in-Netkit-clause-answer c = rw c.in-Netkit.is c.rewrite_as-in-Netkit.ensures.answer

pub returns-in-Veth-clause-answer : goal.returns-in-Veth-clause-answer
returns-in-Veth-clause-answer c = rw c.in-Veth.is c.rewrite_as-in-Veth.ensures.answer
