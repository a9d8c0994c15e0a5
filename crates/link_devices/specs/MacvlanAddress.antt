-- The hardware addresses that a MACVLAN device accepts as sources.
use Rattle.std.specs.Prelude.{[], ◌∷◌}
use Rattle.link_base.specs.Class.{Raw}
use Rattle.link_base.specs.Payloads.{mac}
use Rattle.link_base.specs.Table.{Rows, Leaf, Case, leaf_row, prefixed}
use Rattle.link_base.specs.Default.{default_means}
use Rattle.link_devices.specs.declared.macvlan_address.MacVlanAddress.{MacVlanAddress}
use Rattle.link_devices.specs.declared.macvlan_address.MacVlanAddress.TheVariants as infos

-- one row for each attribute type
abbrev pub mac_vlan_address_rows : Rows
mac_vlan_address_rows = prefixed "IFLA_MACVLAN_" (leaf_row 4 "IFLA_MACVLAN_MACADDR" mac ∷ [])

-- the attribute that a value represents
abbrev pub mac_vlan_address_leaf : MacVlanAddress → Leaf
mac_vlan_address_leaf (infos.MacAddr address) = Case 4 (Raw address)
mac_vlan_address_leaf (infos.Other other) = default_means other
