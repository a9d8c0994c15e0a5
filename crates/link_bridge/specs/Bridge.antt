-- Bridge attributes.
use Rattle.std.specs.Prelude.{[], ◌∷◌, map, true}
use Rattle.link_base.specs.Class.{AtLeast, Fixed, Number, Boolean, Raw, EtherType, Nothing}
use Rattle.link_base.specs.Payloads.{u8, u16, u32, u64, truth, u8_enum, u32_enum, mac, vlan_protocol, struct_of, flags_struct, no_value}
use Rattle.link_base.specs.declared.rows.form.Layout.TheVariants as layouts
use Rattle.link_base.specs.Named.{numbers_of, seen_value}
use Rattle.link_base.specs.declared.rows.label.Quantity.TheVariants.{ClockTicks, Mask}
use Rattle.link_base.specs.Table.{Table, AttrValue, Case, Single, Inner, row, row_in, nested_row, prefixed}
use Rattle.link_base.specs.Protocol.{protocol_number}
use Rattle.link_base.specs.Default.{default_means}
use Rattle.link_bridge.specs.Names.{stp_state_names, stp_state_seen, stp_mode_names, stp_mode_seen, router_type_names, router_type_seen}
use Rattle.link_bridge.specs.Id.{id_fields, id_octets}
use Rattle.link_bridge.specs.BooleanOptions.{option_bit_names, options_fields, options_octets}
use Rattle.link_bridge.specs.Querier.{querier_rows, querier_leaf}
use Rattle.link_bridge.specs.declared.bridge.InfoBridge.{InfoBridge}
use Rattle.link_bridge.specs.declared.bridge.InfoBridge.TheVariants as infos

-- one row for each attribute type. Type 40, IFLA_BR_PAD, has no row
abbrev pub bridge_table : Table
bridge_table = prefixed "IFLA_BR_" (
    row_in ClockTicks 1 "IFLA_BR_FORWARD_DELAY" u32 ∷
    row_in ClockTicks 2 "IFLA_BR_HELLO_TIME" u32 ∷
    row_in ClockTicks 3 "IFLA_BR_MAX_AGE" u32 ∷
    row_in ClockTicks 4 "IFLA_BR_AGEING_TIME" u32 ∷
    row 5 "IFLA_BR_STP_STATE" (u32_enum stp_state_names) ∷
    row 6 "IFLA_BR_PRIORITY" u16 ∷
    row 7 "IFLA_BR_VLAN_FILTERING" truth ∷
    row 8 "IFLA_BR_VLAN_PROTOCOL" vlan_protocol ∷
    row_in Mask 9 "IFLA_BR_GROUP_FWD_MASK" u16 ∷
    row 10 "IFLA_BR_ROOT_ID" (struct_of layouts.BridgeId id_fields) ∷
    row 11 "IFLA_BR_BRIDGE_ID" (struct_of layouts.BridgeId id_fields) ∷
    row 12 "IFLA_BR_ROOT_PORT" u16 ∷
    row 13 "IFLA_BR_ROOT_PATH_COST" u32 ∷
    row 14 "IFLA_BR_TOPOLOGY_CHANGE" u8 ∷
    row 15 "IFLA_BR_TOPOLOGY_CHANGE_DETECTED" u8 ∷
    row_in ClockTicks 16 "IFLA_BR_HELLO_TIMER" u64 ∷
    row_in ClockTicks 17 "IFLA_BR_TCN_TIMER" u64 ∷
    row_in ClockTicks 18 "IFLA_BR_TOPOLOGY_CHANGE_TIMER" u64 ∷
    row_in ClockTicks 19 "IFLA_BR_GC_TIMER" u64 ∷
    row 20 "IFLA_BR_GROUP_ADDR" mac ∷
    row 21 "IFLA_BR_FDB_FLUSH" no_value ∷
    row 22 "IFLA_BR_MCAST_ROUTER" (u8_enum router_type_names) ∷
    row 23 "IFLA_BR_MCAST_SNOOPING" truth ∷
    row 24 "IFLA_BR_MCAST_QUERY_USE_IFADDR" truth ∷
    row 25 "IFLA_BR_MCAST_QUERIER" truth ∷
    row 26 "IFLA_BR_MCAST_HASH_ELASTICITY" u32 ∷
    row 27 "IFLA_BR_MCAST_HASH_MAX" u32 ∷
    row 28 "IFLA_BR_MCAST_LAST_MEMBER_CNT" u32 ∷
    row 29 "IFLA_BR_MCAST_STARTUP_QUERY_CNT" u32 ∷
    row_in ClockTicks 30 "IFLA_BR_MCAST_LAST_MEMBER_INTVL" u64 ∷
    row_in ClockTicks 31 "IFLA_BR_MCAST_MEMBERSHIP_INTVL" u64 ∷
    row_in ClockTicks 32 "IFLA_BR_MCAST_QUERIER_INTVL" u64 ∷
    row_in ClockTicks 33 "IFLA_BR_MCAST_QUERY_INTVL" u64 ∷
    row_in ClockTicks 34 "IFLA_BR_MCAST_QUERY_RESPONSE_INTVL" u64 ∷
    row_in ClockTicks 35 "IFLA_BR_MCAST_STARTUP_QUERY_INTVL" u64 ∷
    row 36 "IFLA_BR_NF_CALL_IPTABLES" truth ∷
    row 37 "IFLA_BR_NF_CALL_IP6TABLES" truth ∷
    row 38 "IFLA_BR_NF_CALL_ARPTABLES" truth ∷
    row 39 "IFLA_BR_VLAN_DEFAULT_PVID" u16 ∷
    row 41 "IFLA_BR_VLAN_STATS_ENABLED" truth ∷
    row 42 "IFLA_BR_MCAST_STATS_ENABLED" truth ∷
    row 43 "IFLA_BR_MCAST_IGMP_VERSION" u8 ∷
    row 44 "IFLA_BR_MCAST_MLD_VERSION" u8 ∷
    row 45 "IFLA_BR_VLAN_STATS_PER_PORT" truth ∷
    row 46 "IFLA_BR_MULTI_BOOLOPT" (flags_struct layouts.BooleanOptions option_bit_names options_fields) ∷
    nested_row 47 "IFLA_BR_MCAST_QUERIER_STATE" true querier_rows ∷
    row 48 "IFLA_BR_FDB_N_LEARNED" u32 ∷
    row 49 "IFLA_BR_FDB_MAX_LEARNED" u32 ∷
    row 50 "IFLA_BR_STP_MODE" (u32_enum stp_mode_names) ∷ [])

-- the attribute that a value represents
abbrev pub bridge_means : InfoBridge → AttrValue
bridge_means (infos.GroupAddr address) = Case 20 (Single (Raw address))
bridge_means infos.FdbFlush = Case 21 (Single Nothing)
bridge_means (infos.HelloTimer left) = Case 16 (Single (Number 8 left))
bridge_means (infos.TcnTimer left) = Case 17 (Single (Number 8 left))
bridge_means (infos.TopologyChangeTimer left) = Case 18 (Single (Number 8 left))
bridge_means (infos.GcTimer left) = Case 19 (Single (Number 8 left))
bridge_means (infos.MulticastMembershipInterval interval) = Case 31 (Single (Number 8 interval))
bridge_means (infos.MulticastQuerierInterval interval) = Case 32 (Single (Number 8 interval))
bridge_means (infos.MulticastQueryInterval interval) = Case 33 (Single (Number 8 interval))
bridge_means (infos.MulticastQueryResponseInterval interval) = Case 34 (Single (Number 8 interval))
bridge_means (infos.MulticastLastMemberInterval interval) = Case 30 (Single (Number 8 interval))
bridge_means (infos.MulticastStartupQueryInterval interval) = Case 35 (Single (Number 8 interval))
bridge_means (infos.ForwardDelay delay) = Case 1 (Single (Number 4 delay))
bridge_means (infos.HelloTime time) = Case 2 (Single (Number 4 time))
bridge_means (infos.MaxAge time) = Case 3 (Single (Number 4 time))
bridge_means (infos.AgeingTime time) = Case 4 (Single (Number 4 time))
bridge_means (infos.StpState state) = Case 5 (Single (seen_value 4 (numbers_of stp_state_names) (stp_state_seen state)))
bridge_means (infos.MulticastHashElasticity elasticity) = Case 26 (Single (Number 4 elasticity))
bridge_means (infos.MulticastHashMax size) = Case 27 (Single (Number 4 size))
bridge_means (infos.MulticastLastMemberCount count) = Case 28 (Single (Number 4 count))
bridge_means (infos.MulticastStartupQueryCount count) = Case 29 (Single (Number 4 count))
bridge_means (infos.RootPathCost cost) = Case 13 (Single (Number 4 cost))
bridge_means (infos.Priority priority) = Case 6 (Single (Number 2 priority))
bridge_means (infos.VlanProtocol protocol) = Case 8 (Single (EtherType (protocol_number protocol)))
bridge_means (infos.GroupFwdMask mask) = Case 9 (Single (Number 2 mask))
bridge_means (infos.RootId id) = Case 10 (Single (Raw (id_octets id)))
bridge_means (infos.BridgeId id) = Case 11 (Single (Raw (id_octets id)))
bridge_means (infos.RootPort number) = Case 12 (Single (Number 2 number))
bridge_means (infos.VlanDefaultPvid id) = Case 39 (Single (Number 2 id))
bridge_means (infos.VlanFiltering filtering) = Case 7 (Single (Boolean filtering))
bridge_means (infos.TopologyChange change) = Case 14 (Single (Number 1 change))
bridge_means (infos.TopologyChangeDetected change) = Case 15 (Single (Number 1 change))
bridge_means (infos.MulticastRouter router) = Case 22 (Single (seen_value 1 (numbers_of router_type_names) (router_type_seen router)))
bridge_means (infos.MulticastSnooping snooping) = Case 23 (Single (Boolean snooping))
bridge_means (infos.MulticastQueryUseIfaddr used) = Case 24 (Single (Boolean used))
bridge_means (infos.MulticastQuerier querier) = Case 25 (Single (Boolean querier))
bridge_means (infos.NfCallIpTables called) = Case 36 (Single (Boolean called))
bridge_means (infos.NfCallIp6Tables called) = Case 37 (Single (Boolean called))
bridge_means (infos.NfCallArpTables called) = Case 38 (Single (Boolean called))
bridge_means (infos.VlanStatsEnabled enabled) = Case 41 (Single (Boolean enabled))
bridge_means (infos.MulticastStatsEnabled enabled) = Case 42 (Single (Boolean enabled))
bridge_means (infos.MulticastIgmpVersion version) = Case 43 (Single (Number 1 version))
bridge_means (infos.MulticastMldVersion version) = Case 44 (Single (Number 1 version))
bridge_means (infos.VlanStatsPerPort enabled) = Case 45 (Single (Boolean enabled))
bridge_means (infos.MultiBoolOpt options) = Case 46 (Single (Raw (options_octets options)))
bridge_means (infos.MulticastQuerierState queriers) = Case 47 (Inner true (map querier_leaf queriers.items))
bridge_means (infos.FdbNLearned count) = Case 48 (Single (Number 4 count))
bridge_means (infos.FdbMaxLearned count) = Case 49 (Single (Number 4 count))
bridge_means (infos.StpMode mode) = Case 50 (Single (seen_value 4 (numbers_of stp_mode_names) (stp_mode_seen mode)))
bridge_means (infos.Other other) = default_means other
