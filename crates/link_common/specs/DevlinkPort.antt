-- The devlink port of a link.
use Rattle.std.specs.Prelude.{[], ◌∷◌}
use Rattle.link_base.specs.Class.{Number, Raw}
use Rattle.link_base.specs.Payloads.{u32, text}
use Rattle.link_base.specs.Table.{Rows, Leaf, Case, leaf_row, prefixed}
use Rattle.link_base.specs.Default.{default_means}
use Rattle.link_common.specs.declared.devlink_port.DevlinkPort.{DevlinkPort}
use Rattle.link_common.specs.declared.devlink_port.DevlinkPort.TheVariants as infos

-- one row for each attribute type
abbrev pub devlink_port_rows : Rows
devlink_port_rows = prefixed "DEVLINK_ATTR_" (
    leaf_row 1 "DEVLINK_ATTR_BUS_NAME" text ∷
    leaf_row 2 "DEVLINK_ATTR_DEV_NAME" text ∷
    leaf_row 3 "DEVLINK_ATTR_PORT_INDEX" u32 ∷ [])

-- the attribute that a value represents
abbrev pub devlink_port_leaf : DevlinkPort → Leaf
devlink_port_leaf (infos.BusName name) = Case 1 (Raw name.items)
devlink_port_leaf (infos.DevName name) = Case 2 (Raw name.items)
devlink_port_leaf (infos.PortIndex index) = Case 3 (Number 4 index)
devlink_port_leaf (infos.Other other) = default_means other
