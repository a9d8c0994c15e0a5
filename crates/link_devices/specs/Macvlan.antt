-- Attributes of MACVLAN and MACVTAP devices.
use Rattle.std.specs.Prelude.{[], ◌∷◌, map, false}
use Rattle.link_base.specs.Class.{Number, Integer, Raw}
use Rattle.link_base.specs.Payloads.{u32, i32, u32_coded, u16_flags, mac}
use Rattle.link_base.specs.Table.{Table, AttrValue, Case, Single, Inner, row, nested_row, prefixed}
use Rattle.link_base.specs.Default.{default_means}
use Rattle.link_devices.specs.MacvlanNames.{macvlan_mode_names, macvlan_flags_names, macvlan_address_mode_names}
use Rattle.link_devices.specs.MacvlanAddress.{mac_vlan_address_rows, mac_vlan_address_leaf}
use Rattle.link_devices.specs.declared.macvlan.InfoMacVlan.{InfoMacVlan}
use Rattle.link_devices.specs.declared.macvlan.InfoMacVlan.TheVariants as infos

-- one row for each attribute type
abbrev pub macvlan_table : Table
macvlan_table = prefixed "IFLA_MACVLAN_" (
    row 1 "IFLA_MACVLAN_MODE" (u32_coded macvlan_mode_names) ∷
    row 2 "IFLA_MACVLAN_FLAGS" (u16_flags macvlan_flags_names) ∷
    row 3 "IFLA_MACVLAN_MACADDR_MODE" (u32_coded macvlan_address_mode_names) ∷
    row 4 "IFLA_MACVLAN_MACADDR" mac ∷
    nested_row 5 "IFLA_MACVLAN_MACADDR_DATA" false mac_vlan_address_rows ∷
    row 6 "IFLA_MACVLAN_MACADDR_COUNT" u32 ∷
    row 7 "IFLA_MACVLAN_BC_QUEUE_LEN" u32 ∷
    row 8 "IFLA_MACVLAN_BC_QUEUE_LEN_USED" u32 ∷
    row 9 "IFLA_MACVLAN_BC_CUTOFF" i32 ∷ [])

-- the attribute that a value represents
abbrev pub macvlan_means : InfoMacVlan → AttrValue
macvlan_means (infos.Mode mode) = Case 1 (Single (Number 4 mode))
macvlan_means (infos.Flags flags) = Case 2 (Single (Number 2 flags))
macvlan_means (infos.MacAddrMode mode) = Case 3 (Single (Number 4 mode))
macvlan_means (infos.MacAddr address) = Case 4 (Single (Raw address))
macvlan_means (infos.MacAddrData addresses) = Case 5 (Inner false (map mac_vlan_address_leaf addresses.items))
macvlan_means (infos.MacAddrCount number) = Case 6 (Single (Number 4 number))
macvlan_means (infos.BcQueueLen length) = Case 7 (Single (Number 4 length))
macvlan_means (infos.BcQueueLenUsed length) = Case 8 (Single (Number 4 length))
macvlan_means (infos.BcCutoff number) = Case 9 (Single (Integer number))
macvlan_means (infos.Other other) = default_means other
