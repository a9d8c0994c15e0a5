-- Attributes of a link for IPv6.
use Rattle.std.specs.Prelude.{[], ◌∷◌}
use Rattle.std.specs.Int.{w32, cast_unsigned}
use Rattle.link_base.specs.Layout.{octets_of, octets_by}
use Rattle.link_base.specs.Structs.{packed}
use Rattle.link_base.specs.Class.{Number, Raw}
use Rattle.link_base.specs.Payloads.{u32, u8_coded, u32_flags, ipv6, struct_of, u64_counters, i32_counters, bytes}
use Rattle.link_base.specs.declared.rows.form.Layout.TheVariants as layouts
use Rattle.link_base.specs.declared.classes.lengths.Lengths.TheVariants as lengths
use Rattle.link_base.specs.Table.{Table, AttrValue, Case, Single, row, prefixed}
use Rattle.link_base.specs.IpAddress.{sixteen_octets}
use Rattle.link_base.specs.Default.{default_means}
use Rattle.link_common.specs.InetNames.{inet6_flags_names, addr_gen_mode_names}
use Rattle.link_common.specs.Places.{ipv6_conf_names, ipv6_stats_names, icmp6_stats_names}
use Rattle.link_common.specs.CacheInfo.{cache_info_fields, cache_info_held}
use Rattle.link_common.specs.declared.inet6.AfSpecInet6.{AfSpecInet6}
use Rattle.link_common.specs.declared.inet6.AfSpecInet6.TheVariants as infos

-- one row for each attribute type
abbrev pub inet6_table : Table
inet6_table = prefixed "IFLA_INET6_" (
    row 1 "IFLA_INET6_FLAGS" (u32_flags inet6_flags_names) ∷
    row 2 "IFLA_INET6_CONF" (i32_counters ipv6_conf_names) ∷
    row 3 "IFLA_INET6_STATS" (u64_counters ipv6_stats_names) ∷
    row 4 "IFLA_INET6_MCAST" bytes ∷
    row 5 "IFLA_INET6_CACHEINFO" (struct_of (layouts.Other (lengths.AtLeast 16)) cache_info_fields) ∷
    row 6 "IFLA_INET6_ICMP6STATS" (u64_counters icmp6_stats_names) ∷
    row 7 "IFLA_INET6_TOKEN" ipv6 ∷
    row 8 "IFLA_INET6_ADDR_GEN_MODE" (u8_coded addr_gen_mode_names) ∷
    row 9 "IFLA_INET6_RA_MTU" u32 ∷ [])

-- the attribute that a value represents
abbrev pub inet6_means : AfSpecInet6 → AttrValue
inet6_means (infos.Flags flags) = Case 1 (Single (Number 4 flags))
inet6_means (infos.Conf settings) = Case 2 (Single (Raw (octets_by 4 (cast_unsigned w32) settings.items)))
inet6_means (infos.Stats numbers) = Case 3 (Single (Raw (octets_of 8 numbers.items)))
inet6_means (infos.Mcast octets) = Case 4 (Single (Raw octets.items))
inet6_means (infos.CacheInfo info) = Case 5 (Single (Raw (packed (cache_info_held info))))
inet6_means (infos.Icmp6Stats numbers) = Case 6 (Single (Raw (octets_of 8 numbers.items)))
inet6_means (infos.Token address) = Case 7 (Single (Raw (sixteen_octets address)))
inet6_means (infos.AddrGenMode mode) = Case 8 (Single (Number 1 mode))
inet6_means (infos.RaMtu mtu) = Case 9 (Single (Number 4 mtu))
inet6_means (infos.Other other) = default_means other
