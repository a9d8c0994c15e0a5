-- Attributes of IFLA_PROTINFO in AF_BRIDGE messages.
use Rattle.std.specs.Prelude.{[], ◌∷◌}
use Rattle.link_base.specs.Class.{Boolean}
use Rattle.link_base.specs.Payloads.{truth}
use Rattle.link_base.specs.Table.{Table, AttrValue, Case, Single, row, prefixed}
use Rattle.link_base.specs.Default.{default_means}
use Rattle.link_bridge.specs.declared.proto_info.LinkProtoInfoBridge.{LinkProtoInfoBridge}
use Rattle.link_bridge.specs.declared.proto_info.LinkProtoInfoBridge.TheVariants.{NeighForwardGrat, Other}

-- one row for each attribute type
abbrev pub proto_info_table : Table
proto_info_table = prefixed "IFLA_BRPORT_" (row 45 "IFLA_BRPORT_NEIGH_FORWARD_GRAT" truth ∷ [])

-- the attribute that a value represents
abbrev pub proto_info_means : LinkProtoInfoBridge → AttrValue
proto_info_means (NeighForwardGrat enabled) = Case 45 (Single (Boolean enabled))
proto_info_means (Other other) = default_means other
