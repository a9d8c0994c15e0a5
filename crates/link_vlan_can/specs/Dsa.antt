-- DSA port attributes.
use Rattle.std.specs.Prelude.{[], ◌∷◌}
use Rattle.link_base.specs.Class.{Number}
use Rattle.link_base.specs.Payloads.{u32}
use Rattle.link_base.specs.declared.rows.label.Quantity.TheVariants.{InterfaceIndex}
use Rattle.link_base.specs.Table.{Table, AttrValue, Case, Single, row_in, prefixed}
use Rattle.link_base.specs.Default.{default_means}
use Rattle.link_vlan_can.specs.declared.dsa.InfoDsa.{InfoDsa}
use Rattle.link_vlan_can.specs.declared.dsa.InfoDsa.TheVariants as infos

-- one row for each attribute type
abbrev pub dsa_table : Table
dsa_table = prefixed "IFLA_DSA_" (row_in InterfaceIndex 1 "IFLA_DSA_CONDUIT" u32 ∷ [])

-- the attribute that a value represents
abbrev pub dsa_means : InfoDsa → AttrValue
dsa_means (infos.Conduit conduit) = Case 1 (Single (Number 4 conduit))
dsa_means (infos.Other other) = default_means other
