-- The names of the places of arrays in the attributes of a link. Places count from 0.
use Rattle.std.specs.Prelude.{ℕ, List, [], ◌∷◌, codes}

-- the fields of `struct rtnl_link_stats`
abbrev pub link_stats_names : List (ℕ × List ℕ)
link_stats_names =
    (0, codes "rx_packets") ∷
    (1, codes "tx_packets") ∷
    (2, codes "rx_bytes") ∷
    (3, codes "tx_bytes") ∷
    (4, codes "rx_errors") ∷
    (5, codes "tx_errors") ∷
    (6, codes "rx_dropped") ∷
    (7, codes "tx_dropped") ∷
    (8, codes "multicast") ∷
    (9, codes "collisions") ∷
    (10, codes "rx_length_errors") ∷
    (11, codes "rx_over_errors") ∷
    (12, codes "rx_crc_errors") ∷
    (13, codes "rx_frame_errors") ∷
    (14, codes "rx_fifo_errors") ∷
    (15, codes "rx_missed_errors") ∷
    (16, codes "tx_aborted_errors") ∷
    (17, codes "tx_carrier_errors") ∷
    (18, codes "tx_fifo_errors") ∷
    (19, codes "tx_heartbeat_errors") ∷
    (20, codes "tx_window_errors") ∷
    (21, codes "rx_compressed") ∷
    (22, codes "tx_compressed") ∷
    (23, codes "rx_nohandler") ∷ []

-- the fields of `struct rtnl_link_stats64`
abbrev pub link_stats64_names : List (ℕ × List ℕ)
link_stats64_names =
    (0, codes "rx_packets") ∷
    (1, codes "tx_packets") ∷
    (2, codes "rx_bytes") ∷
    (3, codes "tx_bytes") ∷
    (4, codes "rx_errors") ∷
    (5, codes "tx_errors") ∷
    (6, codes "rx_dropped") ∷
    (7, codes "tx_dropped") ∷
    (8, codes "multicast") ∷
    (9, codes "collisions") ∷
    (10, codes "rx_length_errors") ∷
    (11, codes "rx_over_errors") ∷
    (12, codes "rx_crc_errors") ∷
    (13, codes "rx_frame_errors") ∷
    (14, codes "rx_fifo_errors") ∷
    (15, codes "rx_missed_errors") ∷
    (16, codes "tx_aborted_errors") ∷
    (17, codes "tx_carrier_errors") ∷
    (18, codes "tx_fifo_errors") ∷
    (19, codes "tx_heartbeat_errors") ∷
    (20, codes "tx_window_errors") ∷
    (21, codes "rx_compressed") ∷
    (22, codes "tx_compressed") ∷
    (23, codes "rx_nohandler") ∷
    (24, codes "rx_otherhost_dropped") ∷ []

-- IPV4_DEVCONF_..: the place of a setting is its number less 1
abbrev pub ipv4_conf_names : List (ℕ × List ℕ)
ipv4_conf_names =
    (0, codes "forwarding") ∷
    (1, codes "mc_forwarding") ∷
    (2, codes "proxy_arp") ∷
    (3, codes "accept_redirects") ∷
    (4, codes "secure_redirects") ∷
    (5, codes "send_redirects") ∷
    (6, codes "shared_media") ∷
    (7, codes "rp_filter") ∷
    (8, codes "accept_source_route") ∷
    (9, codes "bootp_relay") ∷
    (10, codes "log_martians") ∷
    (11, codes "tag") ∷
    (12, codes "arpfilter") ∷
    (13, codes "medium_id") ∷
    (14, codes "noxfrm") ∷
    (15, codes "nopolicy") ∷
    (16, codes "force_igmp_version") ∷
    (17, codes "arp_announce") ∷
    (18, codes "arp_ignore") ∷
    (19, codes "promote_secondaries") ∷
    (20, codes "arp_accept") ∷
    (21, codes "arp_notify") ∷
    (22, codes "accept_local") ∷
    (23, codes "src_vmark") ∷
    (24, codes "proxy_arp_pvlan") ∷
    (25, codes "route_localnet") ∷
    (26, codes "igmpv2_unsolicited_report_interval") ∷
    (27, codes "igmpv3_unsolicited_report_interval") ∷
    (28, codes "ignore_routes_with_linkdown") ∷
    (29, codes "drop_unicast_in_l2_multicast") ∷
    (30, codes "drop_gratuitous_arp") ∷
    (31, codes "bc_forwarding") ∷
    (32, codes "arp_evict_nocarrier") ∷ []

-- DEVCONF_..: the place of a setting is its number
abbrev pub ipv6_conf_names : List (ℕ × List ℕ)
ipv6_conf_names =
    (0, codes "forwarding") ∷
    (1, codes "hoplimit") ∷
    (2, codes "mtu6") ∷
    (3, codes "accept_ra") ∷
    (4, codes "accept_redirects") ∷
    (5, codes "autoconf") ∷
    (6, codes "dad_transmits") ∷
    (7, codes "rtr_solicits") ∷
    (8, codes "rtr_solicit_interval") ∷
    (9, codes "rtr_solicit_delay") ∷
    (10, codes "use_tempaddr") ∷
    (11, codes "temp_valid_lft") ∷
    (12, codes "temp_prefered_lft") ∷
    (13, codes "regen_max_retry") ∷
    (14, codes "max_desync_factor") ∷
    (15, codes "max_addresses") ∷
    (16, codes "force_mld_version") ∷
    (17, codes "accept_ra_defrtr") ∷
    (18, codes "accept_ra_pinfo") ∷
    (19, codes "accept_ra_rtr_pref") ∷
    (20, codes "rtr_probe_interval") ∷
    (21, codes "accept_ra_rt_info_max_plen") ∷
    (22, codes "proxy_ndp") ∷
    (23, codes "optimistic_dad") ∷
    (24, codes "accept_source_route") ∷
    (25, codes "mc_forwarding") ∷
    (26, codes "disable_ipv6") ∷
    (27, codes "accept_dad") ∷
    (28, codes "force_tllao") ∷
    (29, codes "ndisc_notify") ∷
    (30, codes "mldv1_unsolicited_report_interval") ∷
    (31, codes "mldv2_unsolicited_report_interval") ∷
    (32, codes "suppress_frag_ndisc") ∷
    (33, codes "accept_ra_from_local") ∷
    (34, codes "use_optimistic") ∷
    (35, codes "accept_ra_mtu") ∷
    (36, codes "stable_secret") ∷
    (37, codes "use_oif_addrs_only") ∷
    (38, codes "accept_ra_min_hop_limit") ∷
    (39, codes "ignore_routes_with_linkdown") ∷
    (40, codes "drop_unicast_in_l2_multicast") ∷
    (41, codes "drop_unsolicited_na") ∷
    (42, codes "keep_addr_on_down") ∷
    (43, codes "rtr_solicit_max_interval") ∷
    (44, codes "seg6_enabled") ∷
    (45, codes "seg6_require_hmac") ∷
    (46, codes "enhanced_dad") ∷
    (47, codes "addr_gen_mode") ∷
    (48, codes "disable_policy") ∷
    (49, codes "accept_ra_rt_info_min_plen") ∷
    (50, codes "ndisc_tclass") ∷
    (51, codes "rpl_seg_enabled") ∷
    (52, codes "ra_defrtr_metric") ∷
    (53, codes "ioam6_enabled") ∷
    (54, codes "ioam6_id") ∷
    (55, codes "ioam6_id_wide") ∷
    (56, codes "ndisc_evict_nocarrier") ∷
    (57, codes "accept_untracked_na") ∷
    (58, codes "accept_ra_min_lft") ∷
    (59, codes "force_forwarding") ∷ []

-- IPSTATS_MIB_..: the place of a counter is its number. From 4 on, kernels differ in what a number counts
abbrev pub ipv6_stats_names : List (ℕ × List ℕ)
ipv6_stats_names =
    (0, codes "num") ∷
    (1, codes "inpkts") ∷
    (2, codes "inoctets") ∷
    (3, codes "indelivers") ∷ []

-- ICMP6_MIB_..: the place of a counter is its number
abbrev pub icmp6_stats_names : List (ℕ × List ℕ)
icmp6_stats_names =
    (0, codes "num") ∷
    (1, codes "inmsgs") ∷
    (2, codes "inerrors") ∷
    (3, codes "outmsgs") ∷
    (4, codes "outerrors") ∷
    (5, codes "csumerrors") ∷
    (6, codes "ratelimithost") ∷ []
