-- The multicast queriers known to a bridge.
use Rattle.std.specs.Prelude.{[], ◌∷◌}
use Rattle.link_base.specs.Class.{Number, Raw}
use Rattle.link_base.specs.Payloads.{u32, u64, ipv4, ipv6}
use Rattle.link_base.specs.IpAddress.{four_octets, sixteen_octets}
use Rattle.link_base.specs.declared.rows.label.Quantity.TheVariants.{ClockTicks, InterfaceIndex}
use Rattle.link_base.specs.Table.{Rows, Leaf, Case, leaf_row, leaf_row_in, prefixed}
use Rattle.link_base.specs.Default.{default_means}
use Rattle.link_bridge.specs.declared.bridge.querier.BridgeQuerierState.{BridgeQuerierState}
use Rattle.link_bridge.specs.declared.bridge.querier.BridgeQuerierState.TheVariants.{Ipv4Address, Ipv4Port, Ipv4OtherTimer, Ipv6Address, Ipv6Port, Ipv6OtherTimer, Other}

-- one row for each attribute type. Type 4, BRIDGE_QUERIER_PAD, has no row
abbrev pub querier_rows : Rows
querier_rows = prefixed "BRIDGE_QUERIER_" (
    leaf_row 1 "BRIDGE_QUERIER_IP_ADDRESS" ipv4 ∷
    leaf_row_in InterfaceIndex 2 "BRIDGE_QUERIER_IP_PORT" u32 ∷
    leaf_row_in ClockTicks 3 "BRIDGE_QUERIER_IP_OTHER_TIMER" u64 ∷
    leaf_row 5 "BRIDGE_QUERIER_IPV6_ADDRESS" ipv6 ∷
    leaf_row_in InterfaceIndex 6 "BRIDGE_QUERIER_IPV6_PORT" u32 ∷
    leaf_row_in ClockTicks 7 "BRIDGE_QUERIER_IPV6_OTHER_TIMER" u64 ∷ [])

-- the attribute that a value represents
abbrev pub querier_leaf : BridgeQuerierState → Leaf
querier_leaf (Ipv4Address address) = Case 1 (Raw (four_octets address))
querier_leaf (Ipv4Port index) = Case 2 (Number 4 index)
querier_leaf (Ipv4OtherTimer left) = Case 3 (Number 8 left)
querier_leaf (Ipv6Address address) = Case 5 (Raw (sixteen_octets address))
querier_leaf (Ipv6Port index) = Case 6 (Number 4 index)
querier_leaf (Ipv6OtherTimer left) = Case 7 (Number 8 left)
querier_leaf (Other other) = default_means other
