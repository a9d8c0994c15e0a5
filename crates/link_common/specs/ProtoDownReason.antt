-- Why protocols keep a link down.
use Rattle.std.specs.Prelude.{[], ◌∷◌}
use Rattle.link_base.specs.Class.{Number}
use Rattle.link_base.specs.Payloads.{u32}
use Rattle.link_base.specs.declared.rows.label.Quantity.TheVariants.{Mask}
use Rattle.link_base.specs.Table.{Rows, Leaf, Case, leaf_row_in, prefixed}
use Rattle.link_base.specs.Default.{default_means}
use Rattle.link_common.specs.declared.proto_down_reason.ProtoDownReason.{ProtoDownReason}
use Rattle.link_common.specs.declared.proto_down_reason.ProtoDownReason.TheVariants as infos

-- one row for each attribute type
abbrev pub proto_down_reason_rows : Rows
proto_down_reason_rows = prefixed "IFLA_PROTO_DOWN_REASON_" (
    leaf_row_in Mask 1 "IFLA_PROTO_DOWN_REASON_MASK" u32 ∷
    leaf_row_in Mask 2 "IFLA_PROTO_DOWN_REASON_VALUE" u32 ∷ [])

-- the attribute that a value represents
abbrev pub proto_down_reason_leaf : ProtoDownReason → Leaf
proto_down_reason_leaf (infos.Mask bits) = Case 1 (Number 4 bits)
proto_down_reason_leaf (infos.Value bits) = Case 2 (Number 4 bits)
proto_down_reason_leaf (infos.Other other) = default_means other
