-- The attribute sets: their names, their numbers in C, what holds them in a message, and their tables.
use Rattle.std.specs.Prelude.{◌≡◌, ◌⊎◌, ◌↔◌, ℕ, List, [], ◌∷◌, Option, Some, codes}
use Rattle.link_base.specs.Table.{Table}
use Rattle.netlink_packet_route.specs.declared.family.Family.{Family}
use Rattle.netlink_packet_route.specs.declared.family.Holder.{Holder}
use Rattle.netlink_packet_route.specs.declared.family.Holder.TheVariants as holders
use Rattle.netlink_packet_route.specs.declared.family.Family.TheVariants.{AfSpecBridge, Bond, BondPort, Bridge, BridgePort, Vlan, Can, Dsa, Hsr, ProtoBridge, Vxlan, Link, AfSpec, Inet, Inet6, Mctp, Reply, Geneve, Vrf, VrfPort, Tun, IpVlan, MacVlan, Netkit, Veth}
use Rattle.link_bridge.specs.AfSpecBridge.{af_spec_bridge_table}
use Rattle.link_bond.specs.Bond.{bond_table}
use Rattle.link_bond.specs.BondPort.{bond_port_table}
use Rattle.link_bridge.specs.Bridge.{bridge_table}
use Rattle.link_bridge.specs.BridgePort.{bridge_port_table}
use Rattle.link_vlan_can.specs.Vlan.{vlan_table}
use Rattle.link_vlan_can.specs.Can.{can_table}
use Rattle.link_vlan_can.specs.Dsa.{dsa_table}
use Rattle.link_vlan_can.specs.Hsr.{hsr_table}
use Rattle.link_bridge.specs.ProtoInfo.{proto_info_table}
use Rattle.link_tunnels.specs.Vxlan.{vxlan_table}
use Rattle.link_common.specs.Link.{link_table}
use Rattle.link_common.specs.AfSpec.{af_spec_table}
use Rattle.link_common.specs.Inet.{inet_table}
use Rattle.link_common.specs.Inet6.{inet6_table}
use Rattle.link_common.specs.Mctp.{mctp_table}
use Rattle.link_common.specs.Reply.{reply_table}
use Rattle.link_tunnels.specs.Geneve.{geneve_table}
use Rattle.link_devices.specs.Vrf.{vrf_table}
use Rattle.link_devices.specs.VrfPort.{vrf_port_table}
use Rattle.link_devices.specs.Tun.{tun_table}
use Rattle.link_devices.specs.Ipvlan.{ipvlan_table}
use Rattle.link_devices.specs.Macvlan.{macvlan_table}
use Rattle.link_devices.specs.Netkit.{netkit_table}
use Rattle.link_devices.specs.Veth.{veth_table}

-- what holds the list of an attribute set
pub data Holding : Type 0 where
  -- IFLA_INFO_DATA, next to an IFLA_INFO_KIND with this text
  InfoKind : (text : List ℕ) → Holding
  -- IFLA_INFO_SLAVE_DATA, next to an IFLA_INFO_SLAVE_KIND with this text
  PortKind : (text : List ℕ) → Holding
  -- the attribute of this type, in an AF_BRIDGE message; the same with NLA_F_NESTED; in an AF_INET6 message
  BridgeAttribute : (kind : ℕ) → Holding
  NestedBridgeAttribute : (kind : ℕ) → Holding
  Inet6Attribute : (kind : ℕ) → Holding
  -- the attribute of this type in a list of this set
  Within : (set : Family) (kind : ℕ) → Holding
  -- a message about a link; a reply to a request
  LinkMessage : Holding
  ReplyMessage : Holding

pub record FamilyRow : Type 0 where
  -- the name, as the program `nlroute` accepts it
  pub name : List ℕ
  -- the number in C
  pub number : ℕ
  -- what holds its lists
  pub holdings : List Holding
  -- the table, which defines how the attributes decode
  pub table : Table

abbrev row : List ℕ → ℕ → List Holding → Table → FamilyRow
row name number holdings table = record { name = name; number = number; holdings = holdings; table = table }

-- all that is known of an attribute set
abbrev pub family_row : Family → FamilyRow
family_row AfSpecBridge = row (codes "af_spec_bridge") 0 (BridgeAttribute 26 ∷ []) af_spec_bridge_table
family_row Bond = row (codes "bond") 1 (InfoKind (codes "bond") ∷ []) bond_table
family_row BondPort = row (codes "bond_port") 2 (PortKind (codes "bond") ∷ []) bond_port_table
family_row Bridge = row (codes "bridge") 3 (InfoKind (codes "bridge") ∷ []) bridge_table
family_row BridgePort = row (codes "bridge_port") 4 (PortKind (codes "bridge") ∷ NestedBridgeAttribute 12 ∷ []) bridge_port_table
family_row Vlan = row (codes "vlan") 5 (InfoKind (codes "vlan") ∷ []) vlan_table
family_row Can = row (codes "can") 6 (InfoKind (codes "can") ∷ []) can_table
family_row Dsa = row (codes "dsa") 7 (InfoKind (codes "dsa") ∷ []) dsa_table
family_row Hsr = row (codes "hsr") 8 (InfoKind (codes "hsr") ∷ []) hsr_table
family_row ProtoBridge = row (codes "proto_bridge") 9 (BridgeAttribute 12 ∷ []) proto_info_table
family_row Vxlan = row (codes "vxlan") 10 (InfoKind (codes "vxlan") ∷ []) vxlan_table
family_row Link = row (codes "link") 11 (LinkMessage ∷ Within Veth 1 ∷ Within Netkit 1 ∷ []) link_table
family_row AfSpec = row (codes "af_spec") 12 (Within Link 26 ∷ []) af_spec_table
family_row Inet = row (codes "inet") 13 (Within AfSpec 2 ∷ []) inet_table
family_row Inet6 = row (codes "inet6") 14 (Within AfSpec 10 ∷ Inet6Attribute 12 ∷ []) inet6_table
family_row Mctp = row (codes "mctp") 15 (Within AfSpec 45 ∷ []) mctp_table
family_row Reply = row (codes "reply") 16 (ReplyMessage ∷ []) reply_table
family_row Geneve = row (codes "geneve") 17 (InfoKind (codes "geneve") ∷ []) geneve_table
family_row Vrf = row (codes "vrf") 18 (InfoKind (codes "vrf") ∷ []) vrf_table
family_row VrfPort = row (codes "vrf_port") 19 (PortKind (codes "vrf") ∷ []) vrf_port_table
family_row Tun = row (codes "tun") 20 (InfoKind (codes "tun") ∷ []) tun_table
family_row IpVlan = row (codes "ipvlan") 21 (InfoKind (codes "ipvlan") ∷ InfoKind (codes "ipvtap") ∷ []) ipvlan_table
family_row MacVlan = row (codes "macvlan") 22 (InfoKind (codes "macvlan") ∷ InfoKind (codes "macvtap") ∷ []) macvlan_table
family_row Netkit = row (codes "netkit") 23 (InfoKind (codes "netkit") ∷ []) netkit_table
family_row Veth = row (codes "veth") 24 (InfoKind (codes "veth") ∷ InfoKind (codes "vxcan") ∷ []) veth_table

abbrev pub family_name : Family → List ℕ
family_name family = (family_row family).name

abbrev pub family_number : Family → ℕ
family_number family = (family_row family).number

abbrev pub holders_of : Family → List Holding
holders_of family = (family_row family).holdings

abbrev pub table_of : Family → Table
table_of family = (family_row family).table

-- what a `Holder` represents
abbrev pub holding_of : Holder → Holding
holding_of (holders.InfoKind text) = InfoKind text.now
holding_of (holders.PortKind text) = PortKind text.now
holding_of (holders.BridgeAttribute kind) = BridgeAttribute kind
holding_of (holders.NestedBridgeAttribute kind) = NestedBridgeAttribute kind
holding_of (holders.Inet6Attribute kind) = Inet6Attribute kind
holding_of (holders.Within set kind) = Within set kind
holding_of holders.LinkMessage = LinkMessage
holding_of holders.ReplyMessage = ReplyMessage

-- it is one of them
abbrev pub IsOneOf : Holding → List Holding → Type 0
IsOneOf holding [] = ⊥
IsOneOf holding (x ∷ []) = x ≡ holding
IsOneOf holding (x ∷ y ∷ xs) = (x ≡ holding) ⊎ IsOneOf holding (y ∷ xs)

-- the Family whose list is held so, if there is one: it is the only one with this holder
abbrev pub IsReadBy : Holding → Option Family → Type 0
IsReadBy holding family = (f : Family) → (family ≡ Some f) ↔ IsOneOf holding (holders_of f)
