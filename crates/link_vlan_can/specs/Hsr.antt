-- HSR and PRP device attributes.
use Rattle.std.specs.Prelude.{[], ◌∷◌}
use Rattle.link_base.specs.Class.{Number, Raw}
use Rattle.link_base.specs.Payloads.{u8, u16, u32, u8_enum, mac}
use Rattle.link_base.specs.Named.{numbers_of, seen_value}
use Rattle.link_base.specs.declared.rows.label.Quantity.TheVariants.{InterfaceIndex}
use Rattle.link_base.specs.Table.{Table, AttrValue, Case, Single, row, row_in, prefixed}
use Rattle.link_base.specs.Default.{default_means}
use Rattle.link_vlan_can.specs.HsrProtocol.{hsr_protocol_names, hsr_protocol_seen}
use Rattle.link_vlan_can.specs.declared.hsr.InfoHsr.{InfoHsr}
use Rattle.link_vlan_can.specs.declared.hsr.InfoHsr.TheVariants as infos

-- one row for each attribute type
abbrev pub hsr_table : Table
hsr_table = prefixed "IFLA_HSR_" (
    row_in InterfaceIndex 1 "IFLA_HSR_SLAVE1" u32 ∷
    row_in InterfaceIndex 2 "IFLA_HSR_SLAVE2" u32 ∷
    row 3 "IFLA_HSR_MULTICAST_SPEC" u8 ∷
    row 4 "IFLA_HSR_SUPERVISION_ADDR" mac ∷
    row 5 "IFLA_HSR_SEQ_NR" u16 ∷
    row 6 "IFLA_HSR_VERSION" u8 ∷
    row 7 "IFLA_HSR_PROTOCOL" (u8_enum hsr_protocol_names) ∷
    row_in InterfaceIndex 8 "IFLA_HSR_INTERLINK" u32 ∷ [])

-- the attribute that a value represents
abbrev pub hsr_means : InfoHsr → AttrValue
hsr_means (infos.Port1 index) = Case 1 (Single (Number 4 index))
hsr_means (infos.Port2 index) = Case 2 (Single (Number 4 index))
hsr_means (infos.MulticastSpec octet) = Case 3 (Single (Number 1 octet))
hsr_means (infos.SupervisionAddr address) = Case 4 (Single (Raw address))
hsr_means (infos.SeqNr number) = Case 5 (Single (Number 2 number))
hsr_means (infos.Version version) = Case 6 (Single (Number 1 version))
hsr_means (infos.Protocol p) = Case 7 (Single (seen_value 1 (numbers_of hsr_protocol_names) (hsr_protocol_seen p)))
hsr_means (infos.Interlink index) = Case 8 (Single (Number 4 index))
hsr_means (infos.Other other) = default_means other
