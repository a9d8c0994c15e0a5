-- GENEVE device attributes.
use Rattle.std.specs.Prelude.{[], ◌∷◌}
use Rattle.link_base.specs.Number.{bytes_be}
use Rattle.link_base.specs.Structs.{packed}
use Rattle.link_base.specs.Class.{Number, Boolean, Raw, Nothing}
use Rattle.link_base.specs.Payloads.{u8, u32, truth, u16_be, u32_be, u8_coded, ipv4, ipv6, struct_of, no_value}
use Rattle.link_base.specs.declared.rows.form.Layout.TheVariants as layouts
use Rattle.link_base.specs.declared.classes.lengths.Lengths.TheVariants as lengths
use Rattle.link_base.specs.declared.rows.label.Quantity.TheVariants.{Mask}
use Rattle.link_base.specs.Table.{Table, AttrValue, Case, Single, row, row_in, prefixed}
use Rattle.link_base.specs.IpAddress.{four_octets, sixteen_octets}
use Rattle.link_base.specs.Default.{default_means}
use Rattle.link_tunnels.specs.GeneveNames.{geneve_df_names}
use Rattle.link_tunnels.specs.GenevePortRange.{geneve_port_range_fields, geneve_port_range_held}
use Rattle.link_tunnels.specs.declared.geneve.InfoGeneve.{InfoGeneve}
use Rattle.link_tunnels.specs.declared.geneve.InfoGeneve.TheVariants as infos

-- one row for each attribute type
abbrev pub geneve_table : Table
geneve_table = prefixed "IFLA_GENEVE_" (
    row 1 "IFLA_GENEVE_ID" u32 ∷
    row 2 "IFLA_GENEVE_REMOTE" ipv4 ∷
    row 3 "IFLA_GENEVE_TTL" u8 ∷
    row_in Mask 4 "IFLA_GENEVE_TOS" u8 ∷
    row 5 "IFLA_GENEVE_PORT" u16_be ∷
    row 6 "IFLA_GENEVE_COLLECT_METADATA" no_value ∷
    row 7 "IFLA_GENEVE_REMOTE6" ipv6 ∷
    row 8 "IFLA_GENEVE_UDP_CSUM" truth ∷
    row 9 "IFLA_GENEVE_UDP_ZERO_CSUM6_TX" truth ∷
    row 10 "IFLA_GENEVE_UDP_ZERO_CSUM6_RX" truth ∷
    row_in Mask 11 "IFLA_GENEVE_LABEL" u32_be ∷
    row 12 "IFLA_GENEVE_TTL_INHERIT" truth ∷
    row 13 "IFLA_GENEVE_DF" (u8_coded geneve_df_names) ∷
    row 14 "IFLA_GENEVE_INNER_PROTO_INHERIT" no_value ∷
    row 15 "IFLA_GENEVE_PORT_RANGE" (struct_of (layouts.Other (lengths.Exactly 4)) geneve_port_range_fields) ∷ [])

-- the attribute that a value represents
abbrev pub geneve_means : InfoGeneve → AttrValue
geneve_means (infos.Id vni) = Case 1 (Single (Number 4 vni))
geneve_means (infos.Remote address) = Case 2 (Single (Raw (four_octets address)))
geneve_means (infos.Ttl ttl) = Case 3 (Single (Number 1 ttl))
geneve_means (infos.Tos tos) = Case 4 (Single (Number 1 tos))
geneve_means (infos.Port port) = Case 5 (Single (Raw (bytes_be 2 port)))
geneve_means infos.CollectMetadata = Case 6 (Single Nothing)
geneve_means (infos.Remote6 address) = Case 7 (Single (Raw (sixteen_octets address)))
geneve_means (infos.UdpCsum enabled) = Case 8 (Single (Boolean enabled))
geneve_means (infos.UdpZeroCsum6Tx enabled) = Case 9 (Single (Boolean enabled))
geneve_means (infos.UdpZeroCsum6Rx enabled) = Case 10 (Single (Boolean enabled))
geneve_means (infos.Label label) = Case 11 (Single (Raw (bytes_be 4 label)))
geneve_means (infos.TtlInherit enabled) = Case 12 (Single (Boolean enabled))
geneve_means (infos.Df df) = Case 13 (Single (Number 1 df))
geneve_means infos.InnerProtoInherit = Case 14 (Single Nothing)
geneve_means (infos.PortRange range) = Case 15 (Single (Raw (packed (geneve_port_range_held range))))
geneve_means (infos.Other other) = default_means other
