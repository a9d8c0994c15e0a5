-- Bridge port attributes.
use Rattle.std.specs.Prelude.{ℕ, List, [], ◌∷◌}
use Rattle.link_base.specs.Class.{AtLeast, Number, Boolean, Raw, Nothing}
use Rattle.link_base.specs.Payloads.{u16, u32, u64, truth, u8_enum, struct_of, no_value}
use Rattle.link_base.specs.declared.rows.form.Layout.TheVariants as layouts
use Rattle.link_base.specs.Named.{numbers_of, seen_value}
use Rattle.link_base.specs.declared.rows.label.Quantity.TheVariants.{ClockTicks, InterfaceIndex, Mask}
use Rattle.link_base.specs.Table.{Table, AttrValue, Case, Single, row, row_in, prefixed}
use Rattle.link_base.specs.Default.{default_means}
use Rattle.link_bridge.specs.Names.{port_state_names, port_state_seen, router_type_names, router_type_seen}
use Rattle.link_bridge.specs.Id.{id_fields, id_octets}
use Rattle.link_bridge.specs.declared.bridge_port.InfoBridgePort.{InfoBridgePort}
use Rattle.link_bridge.specs.declared.bridge_port.InfoBridgePort.TheVariants as infos

-- one row for each attribute type. Type 26, IFLA_BRPORT_PAD, has no row
abbrev pub bridge_port_table : Table
bridge_port_table = prefixed "IFLA_BRPORT_" (
    row 1 "IFLA_BRPORT_STATE" (u8_enum port_state_names) ∷
    row 2 "IFLA_BRPORT_PRIORITY" u16 ∷
    row 3 "IFLA_BRPORT_COST" u32 ∷
    row 4 "IFLA_BRPORT_MODE" truth ∷
    row 5 "IFLA_BRPORT_GUARD" truth ∷
    row 6 "IFLA_BRPORT_PROTECT" truth ∷
    row 7 "IFLA_BRPORT_FAST_LEAVE" truth ∷
    row 8 "IFLA_BRPORT_LEARNING" truth ∷
    row 9 "IFLA_BRPORT_UNICAST_FLOOD" truth ∷
    row 10 "IFLA_BRPORT_PROXYARP" truth ∷
    row 11 "IFLA_BRPORT_LEARNING_SYNC" truth ∷
    row 12 "IFLA_BRPORT_PROXYARP_WIFI" truth ∷
    row 13 "IFLA_BRPORT_ROOT_ID" (struct_of layouts.BridgeId id_fields) ∷
    row 14 "IFLA_BRPORT_BRIDGE_ID" (struct_of layouts.BridgeId id_fields) ∷
    row_in Mask 15 "IFLA_BRPORT_DESIGNATED_PORT" u16 ∷
    row 16 "IFLA_BRPORT_DESIGNATED_COST" u16 ∷
    row_in Mask 17 "IFLA_BRPORT_ID" u16 ∷
    row 18 "IFLA_BRPORT_NO" u16 ∷
    row 19 "IFLA_BRPORT_TOPOLOGY_CHANGE_ACK" truth ∷
    row 20 "IFLA_BRPORT_CONFIG_PENDING" truth ∷
    row_in ClockTicks 21 "IFLA_BRPORT_MESSAGE_AGE_TIMER" u64 ∷
    row_in ClockTicks 22 "IFLA_BRPORT_FORWARD_DELAY_TIMER" u64 ∷
    row_in ClockTicks 23 "IFLA_BRPORT_HOLD_TIMER" u64 ∷
    row 24 "IFLA_BRPORT_FLUSH" no_value ∷
    row 25 "IFLA_BRPORT_MULTICAST_ROUTER" (u8_enum router_type_names) ∷
    row 27 "IFLA_BRPORT_MCAST_FLOOD" truth ∷
    row 28 "IFLA_BRPORT_MCAST_TO_UCAST" truth ∷
    row 29 "IFLA_BRPORT_VLAN_TUNNEL" truth ∷
    row 30 "IFLA_BRPORT_BCAST_FLOOD" truth ∷
    row_in Mask 31 "IFLA_BRPORT_GROUP_FWD_MASK" u16 ∷
    row 32 "IFLA_BRPORT_NEIGH_SUPPRESS" truth ∷
    row 33 "IFLA_BRPORT_ISOLATED" truth ∷
    row_in InterfaceIndex 34 "IFLA_BRPORT_BACKUP_PORT" u32 ∷
    row 35 "IFLA_BRPORT_MRP_RING_OPEN" truth ∷
    row 36 "IFLA_BRPORT_MRP_IN_OPEN" truth ∷
    row 37 "IFLA_BRPORT_MCAST_EHT_HOSTS_LIMIT" u32 ∷
    row 38 "IFLA_BRPORT_MCAST_EHT_HOSTS_CNT" u32 ∷
    row 39 "IFLA_BRPORT_LOCKED" truth ∷
    row 40 "IFLA_BRPORT_MAB" truth ∷
    row 41 "IFLA_BRPORT_MCAST_N_GROUPS" u32 ∷
    row 42 "IFLA_BRPORT_MCAST_MAX_GROUPS" u32 ∷
    row 43 "IFLA_BRPORT_NEIGH_VLAN_SUPPRESS" truth ∷
    row 44 "IFLA_BRPORT_BACKUP_NHID" u32 ∷
    row 45 "IFLA_BRPORT_NEIGH_FORWARD_GRAT" truth ∷ [])

-- the attribute types that the second version of the table adds
abbrev pub bridge_port_added : List ℕ
bridge_port_added = 11 ∷ []

-- the first version of the table
abbrev pub bridge_port_table_first : Table
bridge_port_table_first = prefixed "IFLA_BRPORT_" (
    row 1 "IFLA_BRPORT_STATE" (u8_enum port_state_names) ∷
    row 2 "IFLA_BRPORT_PRIORITY" u16 ∷
    row 3 "IFLA_BRPORT_COST" u32 ∷
    row 4 "IFLA_BRPORT_MODE" truth ∷
    row 5 "IFLA_BRPORT_GUARD" truth ∷
    row 6 "IFLA_BRPORT_PROTECT" truth ∷
    row 7 "IFLA_BRPORT_FAST_LEAVE" truth ∷
    row 8 "IFLA_BRPORT_LEARNING" truth ∷
    row 9 "IFLA_BRPORT_UNICAST_FLOOD" truth ∷
    row 10 "IFLA_BRPORT_PROXYARP" truth ∷
    row 12 "IFLA_BRPORT_PROXYARP_WIFI" truth ∷
    row 13 "IFLA_BRPORT_ROOT_ID" (struct_of layouts.BridgeId id_fields) ∷
    row 14 "IFLA_BRPORT_BRIDGE_ID" (struct_of layouts.BridgeId id_fields) ∷
    row_in Mask 15 "IFLA_BRPORT_DESIGNATED_PORT" u16 ∷
    row 16 "IFLA_BRPORT_DESIGNATED_COST" u16 ∷
    row_in Mask 17 "IFLA_BRPORT_ID" u16 ∷
    row 18 "IFLA_BRPORT_NO" u16 ∷
    row 19 "IFLA_BRPORT_TOPOLOGY_CHANGE_ACK" truth ∷
    row 20 "IFLA_BRPORT_CONFIG_PENDING" truth ∷
    row_in ClockTicks 21 "IFLA_BRPORT_MESSAGE_AGE_TIMER" u64 ∷
    row_in ClockTicks 22 "IFLA_BRPORT_FORWARD_DELAY_TIMER" u64 ∷
    row_in ClockTicks 23 "IFLA_BRPORT_HOLD_TIMER" u64 ∷
    row 24 "IFLA_BRPORT_FLUSH" no_value ∷
    row 25 "IFLA_BRPORT_MULTICAST_ROUTER" (u8_enum router_type_names) ∷
    row 27 "IFLA_BRPORT_MCAST_FLOOD" truth ∷
    row 28 "IFLA_BRPORT_MCAST_TO_UCAST" truth ∷
    row 29 "IFLA_BRPORT_VLAN_TUNNEL" truth ∷
    row 30 "IFLA_BRPORT_BCAST_FLOOD" truth ∷
    row_in Mask 31 "IFLA_BRPORT_GROUP_FWD_MASK" u16 ∷
    row 32 "IFLA_BRPORT_NEIGH_SUPPRESS" truth ∷
    row 33 "IFLA_BRPORT_ISOLATED" truth ∷
    row_in InterfaceIndex 34 "IFLA_BRPORT_BACKUP_PORT" u32 ∷
    row 35 "IFLA_BRPORT_MRP_RING_OPEN" truth ∷
    row 36 "IFLA_BRPORT_MRP_IN_OPEN" truth ∷
    row 37 "IFLA_BRPORT_MCAST_EHT_HOSTS_LIMIT" u32 ∷
    row 38 "IFLA_BRPORT_MCAST_EHT_HOSTS_CNT" u32 ∷
    row 39 "IFLA_BRPORT_LOCKED" truth ∷
    row 40 "IFLA_BRPORT_MAB" truth ∷
    row 41 "IFLA_BRPORT_MCAST_N_GROUPS" u32 ∷
    row 42 "IFLA_BRPORT_MCAST_MAX_GROUPS" u32 ∷
    row 43 "IFLA_BRPORT_NEIGH_VLAN_SUPPRESS" truth ∷
    row 44 "IFLA_BRPORT_BACKUP_NHID" u32 ∷
    row 45 "IFLA_BRPORT_NEIGH_FORWARD_GRAT" truth ∷ [])

-- the attribute that a value represents
abbrev pub bridge_port_means : InfoBridgePort → AttrValue
bridge_port_means (infos.State state) =
    Case 1 (Single (seen_value 1 (numbers_of port_state_names) (port_state_seen state)))
bridge_port_means (infos.Priority priority) = Case 2 (Single (Number 2 priority))
bridge_port_means (infos.Cost cost) = Case 3 (Single (Number 4 cost))
bridge_port_means (infos.HairpinMode enabled) = Case 4 (Single (Boolean enabled))
bridge_port_means (infos.Guard enabled) = Case 5 (Single (Boolean enabled))
bridge_port_means (infos.Protect enabled) = Case 6 (Single (Boolean enabled))
bridge_port_means (infos.FastLeave enabled) = Case 7 (Single (Boolean enabled))
bridge_port_means (infos.Learning enabled) = Case 8 (Single (Boolean enabled))
bridge_port_means (infos.UnicastFlood enabled) = Case 9 (Single (Boolean enabled))
bridge_port_means (infos.ProxyARP enabled) = Case 10 (Single (Boolean enabled))
bridge_port_means (infos.LearningSync enabled) = Case 11 (Single (Boolean enabled))
bridge_port_means (infos.ProxyARPWifi enabled) = Case 12 (Single (Boolean enabled))
bridge_port_means (infos.RootId id) = Case 13 (Single (Raw (id_octets id)))
bridge_port_means (infos.BridgeId id) = Case 14 (Single (Raw (id_octets id)))
bridge_port_means (infos.DesignatedPort id) = Case 15 (Single (Number 2 id))
bridge_port_means (infos.DesignatedCost cost) = Case 16 (Single (Number 2 cost))
bridge_port_means (infos.PortId id) = Case 17 (Single (Number 2 id))
bridge_port_means (infos.PortNumber number) = Case 18 (Single (Number 2 number))
bridge_port_means (infos.TopologyChangeAck pending) = Case 19 (Single (Boolean pending))
bridge_port_means (infos.ConfigPending pending) = Case 20 (Single (Boolean pending))
bridge_port_means (infos.MessageAgeTimer left) = Case 21 (Single (Number 8 left))
bridge_port_means (infos.ForwardDelayTimer left) = Case 22 (Single (Number 8 left))
bridge_port_means (infos.HoldTimer left) = Case 23 (Single (Number 8 left))
bridge_port_means infos.Flush = Case 24 (Single Nothing)
bridge_port_means (infos.MulticastRouter router) =
    Case 25 (Single (seen_value 1 (numbers_of router_type_names) (router_type_seen router)))
bridge_port_means (infos.MulticastFlood enabled) = Case 27 (Single (Boolean enabled))
bridge_port_means (infos.MulticastToUnicast enabled) = Case 28 (Single (Boolean enabled))
bridge_port_means (infos.VlanTunnel enabled) = Case 29 (Single (Boolean enabled))
bridge_port_means (infos.BroadcastFlood enabled) = Case 30 (Single (Boolean enabled))
bridge_port_means (infos.GroupFwdMask mask) = Case 31 (Single (Number 2 mask))
bridge_port_means (infos.NeighSupress enabled) = Case 32 (Single (Boolean enabled))
bridge_port_means (infos.Isolated enabled) = Case 33 (Single (Boolean enabled))
bridge_port_means (infos.BackupPort index) = Case 34 (Single (Number 4 index))
bridge_port_means (infos.MrpRingOpen is_open) = Case 35 (Single (Boolean is_open))
bridge_port_means (infos.MrpInOpen is_open) = Case 36 (Single (Boolean is_open))
bridge_port_means (infos.MulticastEhtHostsLimit limit) = Case 37 (Single (Number 4 limit))
bridge_port_means (infos.MulticastEhtHostsCnt count) = Case 38 (Single (Number 4 count))
bridge_port_means (infos.Locked enabled) = Case 39 (Single (Boolean enabled))
bridge_port_means (infos.Mab enabled) = Case 40 (Single (Boolean enabled))
bridge_port_means (infos.MulticastNGroups count) = Case 41 (Single (Number 4 count))
bridge_port_means (infos.MulticastMaxGroups limit) = Case 42 (Single (Number 4 limit))
bridge_port_means (infos.NeighVlanSuppress enabled) = Case 43 (Single (Boolean enabled))
bridge_port_means (infos.BackupNextHopId id) = Case 44 (Single (Number 4 id))
bridge_port_means (infos.NeighForwardGrat enabled) = Case 45 (Single (Boolean enabled))
bridge_port_means (infos.Other other) = default_means other
