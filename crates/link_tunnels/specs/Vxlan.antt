-- VXLAN device attributes.
use Rattle.std.specs.Prelude.{[], ◌∷◌}
use Rattle.link_base.specs.Number.{bytes_be}
use Rattle.link_base.specs.Structs.{packed}
use Rattle.link_base.specs.Class.{Number, Boolean, Raw, Nothing, flag_value}
use Rattle.link_base.specs.Payloads.{u8, u32, truth, flag_or_bool, u16_be, u32_be, u8_coded, u32_coded, ipv4, ipv6, struct_of, no_value}
use Rattle.link_base.specs.declared.rows.form.Layout.TheVariants as layouts
use Rattle.link_base.specs.declared.classes.lengths.Lengths.TheVariants as lengths
use Rattle.link_base.specs.declared.rows.label.Quantity.TheVariants.{InterfaceIndex, Mask, Seconds}
use Rattle.link_base.specs.Table.{Table, AttrValue, Case, Single, row, row_in, prefixed}
use Rattle.link_base.specs.IpAddress.{four_octets, sixteen_octets}
use Rattle.link_base.specs.Default.{default_means}
use Rattle.link_tunnels.specs.VxlanPortRange.{port_range_fields, port_range_held}
use Rattle.link_tunnels.specs.VxlanNames.{vxlan_df_names, label_policy_names}
use Rattle.link_tunnels.specs.VxlanHeader.{vxlan_header_fields, vxlan_header_held}
use Rattle.link_tunnels.specs.declared.vxlan.InfoVxlan.{InfoVxlan}
use Rattle.link_tunnels.specs.declared.vxlan.InfoVxlan.TheVariants as infos

-- one row for each attribute type
abbrev pub vxlan_table : Table
vxlan_table = prefixed "IFLA_VXLAN_" (
    row 1 "IFLA_VXLAN_ID" u32 ∷
    row 2 "IFLA_VXLAN_GROUP" ipv4 ∷
    row_in InterfaceIndex 3 "IFLA_VXLAN_LINK" u32 ∷
    row 4 "IFLA_VXLAN_LOCAL" ipv4 ∷
    row 5 "IFLA_VXLAN_TTL" u8 ∷
    row_in Mask 6 "IFLA_VXLAN_TOS" u8 ∷
    row 7 "IFLA_VXLAN_LEARNING" truth ∷
    row_in Seconds 8 "IFLA_VXLAN_AGEING" u32 ∷
    row 9 "IFLA_VXLAN_LIMIT" u32 ∷
    row 10 "IFLA_VXLAN_PORT_RANGE" (struct_of (layouts.Other (lengths.AtLeast 4)) port_range_fields) ∷
    row 11 "IFLA_VXLAN_PROXY" truth ∷
    row 12 "IFLA_VXLAN_RSC" truth ∷
    row 13 "IFLA_VXLAN_L2MISS" truth ∷
    row 14 "IFLA_VXLAN_L3MISS" truth ∷
    row 15 "IFLA_VXLAN_PORT" u16_be ∷
    row 16 "IFLA_VXLAN_GROUP6" ipv6 ∷
    row 17 "IFLA_VXLAN_LOCAL6" ipv6 ∷
    row 18 "IFLA_VXLAN_UDP_CSUM" truth ∷
    row 19 "IFLA_VXLAN_UDP_ZERO_CSUM6_TX" truth ∷
    row 20 "IFLA_VXLAN_UDP_ZERO_CSUM6_RX" truth ∷
    row 21 "IFLA_VXLAN_REMCSUM_TX" truth ∷
    row 22 "IFLA_VXLAN_REMCSUM_RX" truth ∷
    row 23 "IFLA_VXLAN_GBP" no_value ∷
    row 24 "IFLA_VXLAN_REMCSUM_NOPARTIAL" no_value ∷
    row 25 "IFLA_VXLAN_COLLECT_METADATA" truth ∷
    row_in Mask 26 "IFLA_VXLAN_LABEL" u32_be ∷
    row 27 "IFLA_VXLAN_GPE" no_value ∷
    row 28 "IFLA_VXLAN_TTL_INHERIT" flag_or_bool ∷
    row 29 "IFLA_VXLAN_DF" (u8_coded vxlan_df_names) ∷
    row 30 "IFLA_VXLAN_VNIFILTER" truth ∷
    row 31 "IFLA_VXLAN_LOCALBYPASS" truth ∷
    row 32 "IFLA_VXLAN_LABEL_POLICY" (u32_coded label_policy_names) ∷
    row 33 "IFLA_VXLAN_RESERVED_BITS" (struct_of (layouts.Other (lengths.Exactly 8)) vxlan_header_fields) ∷
    row 34 "IFLA_VXLAN_MC_ROUTE" truth ∷ [])

-- the attribute that a value represents
abbrev pub vxlan_means : InfoVxlan → AttrValue
vxlan_means (infos.Id vni) = Case 1 (Single (Number 4 vni))
vxlan_means (infos.Group address) = Case 2 (Single (Raw (four_octets address)))
vxlan_means (infos.Link index) = Case 3 (Single (Number 4 index))
vxlan_means (infos.Local address) = Case 4 (Single (Raw (four_octets address)))
vxlan_means (infos.Ttl ttl) = Case 5 (Single (Number 1 ttl))
vxlan_means (infos.Tos tos) = Case 6 (Single (Number 1 tos))
vxlan_means (infos.Learning enabled) = Case 7 (Single (Boolean enabled))
vxlan_means (infos.Ageing time) = Case 8 (Single (Number 4 time))
vxlan_means (infos.Limit limit) = Case 9 (Single (Number 4 limit))
vxlan_means (infos.PortRange range) = Case 10 (Single (Raw (packed (port_range_held range))))
vxlan_means (infos.Proxy enabled) = Case 11 (Single (Boolean enabled))
vxlan_means (infos.Rsc enabled) = Case 12 (Single (Boolean enabled))
vxlan_means (infos.L2Miss enabled) = Case 13 (Single (Boolean enabled))
vxlan_means (infos.L3Miss enabled) = Case 14 (Single (Boolean enabled))
vxlan_means (infos.Port port) = Case 15 (Single (Raw (bytes_be 2 port)))
vxlan_means (infos.Group6 address) = Case 16 (Single (Raw (sixteen_octets address)))
vxlan_means (infos.Local6 address) = Case 17 (Single (Raw (sixteen_octets address)))
vxlan_means (infos.UdpCsum enabled) = Case 18 (Single (Boolean enabled))
vxlan_means (infos.UdpZeroCsum6Tx enabled) = Case 19 (Single (Boolean enabled))
vxlan_means (infos.UdpZeroCsum6Rx enabled) = Case 20 (Single (Boolean enabled))
vxlan_means (infos.RemCsumTx enabled) = Case 21 (Single (Boolean enabled))
vxlan_means (infos.RemCsumRx enabled) = Case 22 (Single (Boolean enabled))
vxlan_means infos.Gbp = Case 23 (Single Nothing)
vxlan_means infos.RemCsumNoPartial = Case 24 (Single Nothing)
vxlan_means (infos.CollectMetadata enabled) = Case 25 (Single (Boolean enabled))
vxlan_means (infos.Label label) = Case 26 (Single (Raw (bytes_be 4 label)))
vxlan_means infos.Gpe = Case 27 (Single Nothing)
vxlan_means (infos.TtlInherit inherit) = Case 28 (Single (flag_value inherit))
vxlan_means (infos.Df df) = Case 29 (Single (Number 1 df))
vxlan_means (infos.VniFilter enabled) = Case 30 (Single (Boolean enabled))
vxlan_means (infos.LocalBypass enabled) = Case 31 (Single (Boolean enabled))
vxlan_means (infos.LabelPolicy policy) = Case 32 (Single (Number 4 policy))
vxlan_means (infos.ReservedBits bits) = Case 33 (Single (Raw (packed (vxlan_header_held bits))))
vxlan_means (infos.McRoute enabled) = Case 34 (Single (Boolean enabled))
vxlan_means (infos.Other other) = default_means other
