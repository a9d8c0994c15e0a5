-- A VLAN that is mapped to a tunnel.
use Rattle.std.specs.Prelude.{[], ◌∷◌}
use Rattle.link_base.specs.Class.{Number}
use Rattle.link_base.specs.Payloads.{u16, u32, u16_flags}
use Rattle.link_base.specs.Table.{Rows, Leaf, Case, leaf_row, prefixed}
use Rattle.link_base.specs.Default.{default_means}
use Rattle.link_bridge.specs.VlanInfo.{vlan_info_bits, vlan_info_bit_names}
use Rattle.link_bridge.specs.declared.af_spec.tunnel.BridgeVlanTunnelInfo.{BridgeVlanTunnelInfo}
use Rattle.link_bridge.specs.declared.af_spec.tunnel.BridgeVlanTunnelInfo.TheVariants.{Id, Vid, Flags, Other}

-- one row for each attribute type
abbrev pub tunnel_rows : Rows
tunnel_rows = prefixed "IFLA_BRIDGE_VLAN_TUNNEL_" (
    leaf_row 1 "IFLA_BRIDGE_VLAN_TUNNEL_ID" u32 ∷
    leaf_row 2 "IFLA_BRIDGE_VLAN_TUNNEL_VID" u16 ∷
    leaf_row 3 "IFLA_BRIDGE_VLAN_TUNNEL_FLAGS" (u16_flags vlan_info_bit_names) ∷ [])

-- the attribute that a value represents
abbrev pub tunnel_leaf : BridgeVlanTunnelInfo → Leaf
tunnel_leaf (Id id) = Case 1 (Number 4 id)
tunnel_leaf (Vid vid) = Case 2 (Number 2 vid)
tunnel_leaf (Flags flags) = Case 3 (Number 2 (vlan_info_bits flags))
tunnel_leaf (Other other) = default_means other
