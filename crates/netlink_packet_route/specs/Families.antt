-- A list of all attribute sets.
use Rattle.std.specs.Prelude.{List, [], ◌∷◌}
use Rattle.netlink_packet_route.specs.declared.family.Family.{Family}
use Rattle.netlink_packet_route.specs.declared.family.Family.TheVariants as sets

-- all of them, in the order of their numbers
abbrev pub all_families : List Family
all_families =
    sets.AfSpecBridge ∷
    sets.Bond ∷
    sets.BondPort ∷
    sets.Bridge ∷
    sets.BridgePort ∷
    sets.Vlan ∷
    sets.Can ∷
    sets.Dsa ∷
    sets.Hsr ∷
    sets.ProtoBridge ∷
    sets.Vxlan ∷
    sets.Link ∷
    sets.AfSpec ∷
    sets.Inet ∷
    sets.Inet6 ∷
    sets.Mctp ∷
    sets.Reply ∷
    sets.Geneve ∷
    sets.Vrf ∷
    sets.VrfPort ∷
    sets.Tun ∷
    sets.IpVlan ∷
    sets.MacVlan ∷
    sets.Netkit ∷
    sets.Veth ∷ []
