-- Attributes of IFLA_AF_SPEC in AF_BRIDGE messages.
use Rattle.std.specs.Prelude.{[], ◌∷◌, map, false}
use Rattle.link_base.specs.Class.{Raw, Exactly}
use Rattle.link_base.specs.Payloads.{u16_enum, flags_struct}
use Rattle.link_base.specs.declared.rows.form.Layout.TheVariants as layouts
use Rattle.link_base.specs.Named.{numbers_of, seen_value}
use Rattle.link_base.specs.Table.{Table, AttrValue, Case, Single, Inner, row, nested_row, prefixed}
use Rattle.link_base.specs.Default.{default_means}
use Rattle.link_bridge.specs.Names.{flag_names, flag_seen, mode_names, mode_seen}
use Rattle.link_bridge.specs.VlanInfo.{vlan_info_bit_names, vlan_info_fields, vlan_info_octets}
use Rattle.link_bridge.specs.TunnelInfo.{tunnel_rows, tunnel_leaf}
use Rattle.link_bridge.specs.declared.af_spec.AfSpecBridge.{AfSpecBridge}
use Rattle.link_bridge.specs.declared.af_spec.AfSpecBridge.TheVariants.{Flags, Mode, VlanInfo, VlanTunnelInfo, Other}

-- one row for each attribute type
abbrev pub af_spec_bridge_table : Table
af_spec_bridge_table = prefixed "IFLA_BRIDGE_" (
    row 0 "IFLA_BRIDGE_FLAGS" (u16_enum flag_names) ∷
    row 1 "IFLA_BRIDGE_MODE" (u16_enum mode_names) ∷
    row 2 "IFLA_BRIDGE_VLAN_INFO" (flags_struct layouts.VlanInfo vlan_info_bit_names vlan_info_fields) ∷
    nested_row 3 "IFLA_BRIDGE_VLAN_TUNNEL_INFO" false tunnel_rows ∷ [])

-- the attribute that a value represents
abbrev pub af_spec_bridge_means : AfSpecBridge → AttrValue
af_spec_bridge_means (Flags flag) = Case 0 (Single (seen_value 2 (numbers_of flag_names) (flag_seen flag)))
af_spec_bridge_means (Mode mode) = Case 1 (Single (seen_value 2 (numbers_of mode_names) (mode_seen mode)))
af_spec_bridge_means (VlanInfo info) = Case 2 (Single (Raw (vlan_info_octets info)))
af_spec_bridge_means (VlanTunnelInfo tunnel) = Case 3 (Inner false (map tunnel_leaf tunnel.items))
af_spec_bridge_means (Other other) = default_means other
