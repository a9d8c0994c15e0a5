-- Bond attributes.
use Rattle.std.specs.Prelude.{[], ◌∷◌, map, false}
use Rattle.link_base.specs.Class.{Number, Boolean, Raw}
use Rattle.link_base.specs.Payloads.{u8, u16, u32, truth, u8_enum, u32_enum, mac}
use Rattle.link_base.specs.Named.{numbers_of, seen_value}
use Rattle.link_base.specs.declared.rows.label.Quantity.TheVariants.{InterfaceIndex, Milliseconds, Seconds}
use Rattle.link_base.specs.Table.{Table, AttrValue, Case, Single, Inner, Listed, row, row_in, nested_row, address_row, prefixed}
use Rattle.link_base.specs.IpAddress.{four_octets, sixteen_octets}
use Rattle.link_base.specs.Default.{default_means}
use Rattle.link_bond.specs.Names.{mode_names, mode_seen, arp_validate_names, arp_validate_seen, arp_all_targets_names, arp_all_targets_seen, primary_reselect_names, primary_reselect_seen, fail_over_mac_names, fail_over_mac_seen, xmit_hash_policy_names, xmit_hash_policy_seen, all_port_active_names, all_port_active_seen, lacp_rate_names, lacp_rate_seen, ad_select_names, ad_select_seen}
use Rattle.link_bond.specs.AdInfo.{ad_info_rows, ad_info_leaf}
use Rattle.link_bond.specs.declared.bond.InfoBond.{InfoBond}
use Rattle.link_bond.specs.declared.bond.InfoBond.TheVariants as infos

-- one row for each attribute type
abbrev pub bond_table : Table
bond_table = prefixed "IFLA_BOND_" (
    row 1 "IFLA_BOND_MODE" (u8_enum mode_names) ∷
    row_in InterfaceIndex 2 "IFLA_BOND_ACTIVE_SLAVE" u32 ∷
    row_in Milliseconds 3 "IFLA_BOND_MIIMON" u32 ∷
    row_in Milliseconds 4 "IFLA_BOND_UPDELAY" u32 ∷
    row_in Milliseconds 5 "IFLA_BOND_DOWNDELAY" u32 ∷
    row 6 "IFLA_BOND_USE_CARRIER" truth ∷
    row_in Milliseconds 7 "IFLA_BOND_ARP_INTERVAL" u32 ∷
    address_row 8 "IFLA_BOND_ARP_IP_TARGET" 4 ∷
    row 9 "IFLA_BOND_ARP_VALIDATE" (u32_enum arp_validate_names) ∷
    row 10 "IFLA_BOND_ARP_ALL_TARGETS" (u32_enum arp_all_targets_names) ∷
    row_in InterfaceIndex 11 "IFLA_BOND_PRIMARY" u32 ∷
    row 12 "IFLA_BOND_PRIMARY_RESELECT" (u8_enum primary_reselect_names) ∷
    row 13 "IFLA_BOND_FAIL_OVER_MAC" (u8_enum fail_over_mac_names) ∷
    row 14 "IFLA_BOND_XMIT_HASH_POLICY" (u8_enum xmit_hash_policy_names) ∷
    row 15 "IFLA_BOND_RESEND_IGMP" u32 ∷
    row 16 "IFLA_BOND_NUM_PEER_NOTIF" u8 ∷
    row 17 "IFLA_BOND_ALL_SLAVES_ACTIVE" (u8_enum all_port_active_names) ∷
    row 18 "IFLA_BOND_MIN_LINKS" u32 ∷
    row_in Seconds 19 "IFLA_BOND_LP_INTERVAL" u32 ∷
    row 20 "IFLA_BOND_PACKETS_PER_SLAVE" u32 ∷
    row 21 "IFLA_BOND_AD_LACP_RATE" (u8_enum lacp_rate_names) ∷
    row 22 "IFLA_BOND_AD_SELECT" (u8_enum ad_select_names) ∷
    nested_row 23 "IFLA_BOND_AD_INFO" false ad_info_rows ∷
    row 24 "IFLA_BOND_AD_ACTOR_SYS_PRIO" u16 ∷
    row 25 "IFLA_BOND_AD_USER_PORT_KEY" u16 ∷
    row 26 "IFLA_BOND_AD_ACTOR_SYSTEM" mac ∷
    row 27 "IFLA_BOND_TLB_DYNAMIC_LB" truth ∷
    row_in Milliseconds 28 "IFLA_BOND_PEER_NOTIF_DELAY" u32 ∷
    row 29 "IFLA_BOND_AD_LACP_ACTIVE" truth ∷
    row 30 "IFLA_BOND_MISSED_MAX" u8 ∷
    address_row 31 "IFLA_BOND_NS_IP6_TARGET" 16 ∷
    row 32 "IFLA_BOND_COUPLED_CONTROL" truth ∷
    row 33 "IFLA_BOND_BROADCAST_NEIGH" truth ∷
    row 34 "IFLA_BOND_LACP_STRICT" truth ∷ [])

-- the attribute that a value represents
abbrev pub bond_means : InfoBond → AttrValue
bond_means (infos.Mode mode) = Case 1 (Single (seen_value 1 (numbers_of mode_names) (mode_seen mode)))
bond_means (infos.ActivePort index) = Case 2 (Single (Number 4 index))
bond_means (infos.MiiMon interval) = Case 3 (Single (Number 4 interval))
bond_means (infos.UpDelay delay) = Case 4 (Single (Number 4 delay))
bond_means (infos.DownDelay delay) = Case 5 (Single (Number 4 delay))
bond_means (infos.UseCarrier carrier) = Case 6 (Single (Boolean carrier))
bond_means (infos.ArpInterval interval) = Case 7 (Single (Number 4 interval))
bond_means (infos.ArpIpTarget targets) = Case 8 (Listed (map four_octets targets.items))
bond_means (infos.ArpValidate choice) = Case 9 (Single (seen_value 4 (numbers_of arp_validate_names) (arp_validate_seen choice)))
bond_means (infos.ArpAllTargets choice) = Case 10 (Single (seen_value 4 (numbers_of arp_all_targets_names) (arp_all_targets_seen choice)))
bond_means (infos.Primary index) = Case 11 (Single (Number 4 index))
bond_means (infos.PrimaryReselect choice) = Case 12 (Single (seen_value 1 (numbers_of primary_reselect_names) (primary_reselect_seen choice)))
bond_means (infos.FailOverMac choice) = Case 13 (Single (seen_value 1 (numbers_of fail_over_mac_names) (fail_over_mac_seen choice)))
bond_means (infos.XmitHashPolicy policy) = Case 14 (Single (seen_value 1 (numbers_of xmit_hash_policy_names) (xmit_hash_policy_seen policy)))
bond_means (infos.ResendIgmp count) = Case 15 (Single (Number 4 count))
bond_means (infos.NumPeerNotif count) = Case 16 (Single (Number 1 count))
bond_means (infos.AllPortsActive choice) = Case 17 (Single (seen_value 1 (numbers_of all_port_active_names) (all_port_active_seen choice)))
bond_means (infos.MinLinks count) = Case 18 (Single (Number 4 count))
bond_means (infos.LpInterval interval) = Case 19 (Single (Number 4 interval))
bond_means (infos.PacketsPerPort count) = Case 20 (Single (Number 4 count))
bond_means (infos.AdLacpRate rate) = Case 21 (Single (seen_value 1 (numbers_of lacp_rate_names) (lacp_rate_seen rate)))
bond_means (infos.AdSelect rule) = Case 22 (Single (seen_value 1 (numbers_of ad_select_names) (ad_select_seen rule)))
bond_means (infos.AdInfo infos) = Case 23 (Inner false (map ad_info_leaf infos.items))
bond_means (infos.AdActorSysPrio priority) = Case 24 (Single (Number 2 priority))
bond_means (infos.AdUserPortKey key) = Case 25 (Single (Number 2 key))
bond_means (infos.AdActorSystem address) = Case 26 (Single (Raw address))
bond_means (infos.TlbDynamicLb moved) = Case 27 (Single (Boolean moved))
bond_means (infos.PeerNotifDelay delay) = Case 28 (Single (Number 4 delay))
bond_means (infos.AdLacpActive active) = Case 29 (Single (Boolean active))
bond_means (infos.MissedMax count) = Case 30 (Single (Number 1 count))
bond_means (infos.NsIp6Target targets) = Case 31 (Listed (map sixteen_octets targets.items))
bond_means (infos.CoupledControl coupled) = Case 32 (Single (Boolean coupled))
bond_means (infos.BroadcastNeigh broadcast) = Case 33 (Single (Boolean broadcast))
bond_means (infos.LacpStrict strict) = Case 34 (Single (Boolean strict))
bond_means (infos.Other other) = default_means other
