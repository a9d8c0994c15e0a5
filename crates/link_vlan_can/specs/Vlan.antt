-- VLAN device attributes.
use Rattle.std.specs.Prelude.{[], ◌∷◌, map, false}
use Rattle.link_base.specs.Layout.{octets_of}
use Rattle.link_base.specs.Class.{Number, Raw, EtherType}
use Rattle.link_base.specs.Payloads.{u16, masked_flags, vlan_protocol, pair}
use Rattle.link_base.specs.Table.{Rows, Leaf, Table, AttrValue, Case, Single, Inner, row, leaf_row, nested_row, prefixed}
use Rattle.link_base.specs.Default.{default_means}
use Rattle.link_base.specs.Protocol.{protocol_number}
use Rattle.link_vlan_can.specs.VlanFlags.{vlan_bits, vlan_bit_names}
use Rattle.link_vlan_can.specs.declared.vlan.VlanQosMapping.{VlanQosMapping}
use Rattle.link_vlan_can.specs.declared.vlan.VlanQosMapping.TheVariants as mappings
use Rattle.link_vlan_can.specs.declared.vlan.InfoVlan.{InfoVlan}
use Rattle.link_vlan_can.specs.declared.vlan.InfoVlan.TheVariants as infos

-- a mapping is two u32s
abbrev pub mapping_rows : Rows
mapping_rows = prefixed "IFLA_VLAN_QOS_" (leaf_row 1 "IFLA_VLAN_QOS_MAPPING" pair ∷ [])

-- the attribute that a mapping represents
abbrev pub mapping_leaf : VlanQosMapping → Leaf
mapping_leaf (mappings.Mapping first second) = Case 1 (Raw (octets_of 4 (first ∷ second ∷ [])))
mapping_leaf (mappings.Other other) = default_means other

-- one row for each attribute type. IFLA_VLAN_FLAGS has the active flags, then the mask
abbrev pub vlan_table : Table
vlan_table = prefixed "IFLA_VLAN_" (
    row 1 "IFLA_VLAN_ID" u16 ∷
    row 2 "IFLA_VLAN_FLAGS" (masked_flags vlan_bit_names) ∷
    nested_row 3 "IFLA_VLAN_EGRESS_QOS" false mapping_rows ∷
    nested_row 4 "IFLA_VLAN_INGRESS_QOS" false mapping_rows ∷
    row 5 "IFLA_VLAN_PROTOCOL" vlan_protocol ∷ [])

-- the attribute that a value represents
abbrev pub vlan_means : InfoVlan → AttrValue
vlan_means (infos.Id id) = Case 1 (Single (Number 2 id))
vlan_means (infos.Flags flags) = Case 2 (Single (Raw (octets_of 4 (vlan_bits flags.0 ∷ vlan_bits flags.1 ∷ []))))
vlan_means (infos.EgressQos maps) = Case 3 (Inner false (map mapping_leaf maps.items))
vlan_means (infos.IngressQos maps) = Case 4 (Inner false (map mapping_leaf maps.items))
vlan_means (infos.Protocol p) = Case 5 (Single (EtherType (protocol_number p)))
vlan_means (infos.Other other) = default_means other
