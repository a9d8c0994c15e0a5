-- The attributes of a link message.
use Rattle.std.specs.Prelude.{[], ◌∷◌, map, true, false}
use Rattle.link_base.specs.Layout.{octets_of}
use Rattle.link_base.specs.Structs.{packed}
use Rattle.link_base.specs.Class.{Number, Integer, Boolean, Raw, Nothing}
use Rattle.link_base.specs.Payloads.{u16, u32, i32, truth, u8_coded, u32_coded, u32_flags, struct_of, u32_counters, u64_counters, bytes, text, held, no_value}
use Rattle.link_base.specs.declared.rows.form.Layout.TheVariants as layouts
use Rattle.link_base.specs.declared.classes.lengths.Lengths.TheVariants as lengths
use Rattle.link_base.specs.declared.rows.label.Quantity.TheVariants.{InterfaceIndex, Nanoseconds}
use Rattle.link_base.specs.Table.{Table, AttrValue, Case, Single, Inner, row, row_in, nested_row, prefixed}
use Rattle.link_base.specs.Default.{default_means}
use Rattle.link_common.specs.Places.{link_stats_names, link_stats64_names}
use Rattle.link_common.specs.LinkMap.{link_map_fields, link_map_held}
use Rattle.link_common.specs.LinkNames.{oper_state_names, link_mode_names, ext_mask_names, link_event_names}
use Rattle.link_common.specs.LinkInfo.{link_info_rows, link_info_leaf}
use Rattle.link_common.specs.LinkXdp.{link_xdp_rows, link_xdp_leaf}
use Rattle.link_common.specs.LinkProperty.{link_property_rows, link_property_leaf}
use Rattle.link_common.specs.ProtoDownReason.{proto_down_reason_rows, proto_down_reason_leaf}
use Rattle.link_common.specs.DevlinkPort.{devlink_port_rows, devlink_port_leaf}
use Rattle.link_common.specs.DpllPin.{dpll_pin_rows, dpll_pin_leaf}
use Rattle.link_common.specs.declared.link.LinkAttribute.{LinkAttribute}
use Rattle.link_common.specs.declared.link.LinkAttribute.TheVariants as infos

-- one row for each attribute type. Type 12, IFLA_PROTINFO, has no row
abbrev pub link_table : Table
link_table = prefixed "IFLA_" (
    row 1 "IFLA_ADDRESS" bytes ∷
    row 2 "IFLA_BROADCAST" bytes ∷
    row 3 "IFLA_IFNAME" text ∷
    row 4 "IFLA_MTU" u32 ∷
    row_in InterfaceIndex 5 "IFLA_LINK" u32 ∷
    row 6 "IFLA_QDISC" text ∷
    row 7 "IFLA_STATS" (u32_counters link_stats_names) ∷
    row 8 "IFLA_COST" bytes ∷
    row 9 "IFLA_PRIORITY" bytes ∷
    row_in InterfaceIndex 10 "IFLA_MASTER" u32 ∷
    row 11 "IFLA_WIRELESS" bytes ∷
    row 13 "IFLA_TXQLEN" u32 ∷
    row 14 "IFLA_MAP" (struct_of (layouts.Other (lengths.AtLeast 32)) link_map_fields) ∷
    row 15 "IFLA_WEIGHT" u32 ∷
    row 16 "IFLA_OPERSTATE" (u8_coded oper_state_names) ∷
    row 17 "IFLA_LINKMODE" (u8_coded link_mode_names) ∷
    nested_row 18 "IFLA_LINKINFO" false link_info_rows ∷
    row 19 "IFLA_NET_NS_PID" u32 ∷
    row 20 "IFLA_IFALIAS" text ∷
    row 21 "IFLA_NUM_VF" u32 ∷
    row 22 "IFLA_VFINFO_LIST" held ∷
    row 23 "IFLA_STATS64" (u64_counters link_stats64_names) ∷
    row 24 "IFLA_VF_PORTS" held ∷
    row 25 "IFLA_PORT_SELF" held ∷
    row 26 "IFLA_AF_SPEC" held ∷
    row 27 "IFLA_GROUP" u32 ∷
    row 28 "IFLA_NET_NS_FD" u32 ∷
    row 29 "IFLA_EXT_MASK" (u32_flags ext_mask_names) ∷
    row 30 "IFLA_PROMISCUITY" u32 ∷
    row 31 "IFLA_NUM_TX_QUEUES" u32 ∷
    row 32 "IFLA_NUM_RX_QUEUES" u32 ∷
    row 33 "IFLA_CARRIER" truth ∷
    row 34 "IFLA_PHYS_PORT_ID" bytes ∷
    row 35 "IFLA_CARRIER_CHANGES" u32 ∷
    row 36 "IFLA_PHYS_SWITCH_ID" bytes ∷
    row 37 "IFLA_LINK_NETNSID" i32 ∷
    row 38 "IFLA_PHYS_PORT_NAME" text ∷
    row 39 "IFLA_PROTO_DOWN" truth ∷
    row 40 "IFLA_GSO_MAX_SEGS" u32 ∷
    row 41 "IFLA_GSO_MAX_SIZE" u32 ∷
    row 42 "IFLA_PAD" no_value ∷
    nested_row 43 "IFLA_XDP" false link_xdp_rows ∷
    row 44 "IFLA_EVENT" (u32_coded link_event_names) ∷
    row 45 "IFLA_NEW_NETNSID" i32 ∷
    row 46 "IFLA_TARGET_NETNSID" i32 ∷
    row 47 "IFLA_CARRIER_UP_COUNT" u32 ∷
    row 48 "IFLA_CARRIER_DOWN_COUNT" u32 ∷
    row_in InterfaceIndex 49 "IFLA_NEW_IFINDEX" u32 ∷
    row 50 "IFLA_MIN_MTU" u32 ∷
    row 51 "IFLA_MAX_MTU" u32 ∷
    nested_row 52 "IFLA_PROP_LIST" true link_property_rows ∷
    row 53 "IFLA_ALT_IFNAME" text ∷
    row 54 "IFLA_PERM_ADDRESS" bytes ∷
    nested_row 55 "IFLA_PROTO_DOWN_REASON" true proto_down_reason_rows ∷
    row 56 "IFLA_PARENT_DEV_NAME" text ∷
    row 57 "IFLA_PARENT_DEV_BUS_NAME" text ∷
    row 58 "IFLA_GRO_MAX_SIZE" u32 ∷
    row 59 "IFLA_TSO_MAX_SIZE" u32 ∷
    row 60 "IFLA_TSO_MAX_SEGS" u32 ∷
    row 61 "IFLA_ALLMULTI" u32 ∷
    nested_row 62 "IFLA_DEVLINK_PORT" true devlink_port_rows ∷
    row 63 "IFLA_GSO_IPV4_MAX_SIZE" u32 ∷
    row 64 "IFLA_GRO_IPV4_MAX_SIZE" u32 ∷
    nested_row 65 "IFLA_DPLL_PIN" true dpll_pin_rows ∷
    row_in Nanoseconds 66 "IFLA_MAX_PACING_OFFLOAD_HORIZON" bytes ∷
    row 67 "IFLA_NETNS_IMMUTABLE" truth ∷
    row 68 "IFLA_HEADROOM" u16 ∷
    row 69 "IFLA_TAILROOM" u16 ∷ [])

-- the attribute that a value represents
abbrev pub link_means : LinkAttribute → AttrValue
link_means (infos.Address address) = Case 1 (Single (Raw address.items))
link_means (infos.Broadcast address) = Case 2 (Single (Raw address.items))
link_means (infos.IfName name) = Case 3 (Single (Raw name.items))
link_means (infos.Mtu mtu) = Case 4 (Single (Number 4 mtu))
link_means (infos.Link index) = Case 5 (Single (Number 4 index))
link_means (infos.Qdisc name) = Case 6 (Single (Raw name.items))
link_means (infos.Stats numbers) = Case 7 (Single (Raw (octets_of 4 numbers.items)))
link_means (infos.Cost octets) = Case 8 (Single (Raw octets.items))
link_means (infos.Priority octets) = Case 9 (Single (Raw octets.items))
link_means (infos.Controller index) = Case 10 (Single (Number 4 index))
link_means (infos.Wireless octets) = Case 11 (Single (Raw octets.items))
link_means (infos.TxQueueLen length) = Case 13 (Single (Number 4 length))
link_means (infos.Map resources) = Case 14 (Single (Raw (packed (link_map_held resources))))
link_means (infos.Weight weight) = Case 15 (Single (Number 4 weight))
link_means (infos.OperState state) = Case 16 (Single (Number 1 state))
link_means (infos.LinkMode mode) = Case 17 (Single (Number 1 mode))
link_means (infos.LinkInfo infos) = Case 18 (Inner false (map link_info_leaf infos.items))
link_means (infos.NetNsPid pid) = Case 19 (Single (Number 4 pid))
link_means (infos.IfAlias alias) = Case 20 (Single (Raw alias.items))
link_means (infos.NumVf count) = Case 21 (Single (Number 4 count))
link_means (infos.VfInfoList list) = Case 22 (Single (Raw list.items))
link_means (infos.Stats64 numbers) = Case 23 (Single (Raw (octets_of 8 numbers.items)))
link_means (infos.VfPorts list) = Case 24 (Single (Raw list.items))
link_means (infos.PortSelf list) = Case 25 (Single (Raw list.items))
link_means (infos.AfSpec list) = Case 26 (Single (Raw list.items))
link_means (infos.Group group) = Case 27 (Single (Number 4 group))
link_means (infos.NetNsFd fd) = Case 28 (Single (Number 4 fd))
link_means (infos.ExtMask flags) = Case 29 (Single (Number 4 flags))
link_means (infos.Promiscuity count) = Case 30 (Single (Number 4 count))
link_means (infos.NumTxQueues count) = Case 31 (Single (Number 4 count))
link_means (infos.NumRxQueues count) = Case 32 (Single (Number 4 count))
link_means (infos.Carrier up) = Case 33 (Single (Boolean up))
link_means (infos.PhysPortId id) = Case 34 (Single (Raw id.items))
link_means (infos.CarrierChanges count) = Case 35 (Single (Number 4 count))
link_means (infos.PhysSwitchId id) = Case 36 (Single (Raw id.items))
link_means (infos.LinkNetnsId id) = Case 37 (Single (Integer id))
link_means (infos.PhysPortName name) = Case 38 (Single (Raw name.items))
link_means (infos.ProtoDown down) = Case 39 (Single (Boolean down))
link_means (infos.GsoMaxSegs count) = Case 40 (Single (Number 4 count))
link_means (infos.GsoMaxSize size) = Case 41 (Single (Number 4 size))
link_means infos.Pad = Case 42 (Single Nothing)
link_means (infos.Xdp infos) = Case 43 (Inner false (map link_xdp_leaf infos.items))
link_means (infos.Event event) = Case 44 (Single (Number 4 event))
link_means (infos.NewNetnsId id) = Case 45 (Single (Integer id))
link_means (infos.TargetNetnsId id) = Case 46 (Single (Integer id))
link_means (infos.CarrierUpCount count) = Case 47 (Single (Number 4 count))
link_means (infos.CarrierDownCount count) = Case 48 (Single (Number 4 count))
link_means (infos.NewIfIndex index) = Case 49 (Single (Number 4 index))
link_means (infos.MinMtu mtu) = Case 50 (Single (Number 4 mtu))
link_means (infos.MaxMtu mtu) = Case 51 (Single (Number 4 mtu))
link_means (infos.PropList properties) = Case 52 (Inner true (map link_property_leaf properties.items))
link_means (infos.AltIfName name) = Case 53 (Single (Raw name.items))
link_means (infos.PermAddress address) = Case 54 (Single (Raw address.items))
link_means (infos.ProtoDownReason reasons) = Case 55 (Inner true (map proto_down_reason_leaf reasons.items))
link_means (infos.ParentDevName name) = Case 56 (Single (Raw name.items))
link_means (infos.ParentDevBusName name) = Case 57 (Single (Raw name.items))
link_means (infos.GroMaxSize size) = Case 58 (Single (Number 4 size))
link_means (infos.TsoMaxSize size) = Case 59 (Single (Number 4 size))
link_means (infos.TsoMaxSegs count) = Case 60 (Single (Number 4 count))
link_means (infos.AllMulti count) = Case 61 (Single (Number 4 count))
link_means (infos.DevlinkPort infos) = Case 62 (Inner true (map devlink_port_leaf infos.items))
link_means (infos.GsoIpv4MaxSize size) = Case 63 (Single (Number 4 size))
link_means (infos.GroIpv4MaxSize size) = Case 64 (Single (Number 4 size))
link_means (infos.DpllPin infos) = Case 65 (Inner true (map dpll_pin_leaf infos.items))
link_means (infos.MaxPacingOffloadHorizon octets) = Case 66 (Single (Raw octets.items))
link_means (infos.NetnsImmutable immutable) = Case 67 (Single (Boolean immutable))
link_means (infos.Headroom size) = Case 68 (Single (Number 2 size))
link_means (infos.Tailroom size) = Case 69 (Single (Number 2 size))
link_means (infos.Other other) = default_means other
