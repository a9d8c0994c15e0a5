-- Kind and attributes of a device.
use Rattle.std.specs.Prelude.{[], ◌∷◌}
use Rattle.link_base.specs.Class.{Raw}
use Rattle.link_base.specs.Payloads.{bytes, text, held}
use Rattle.link_base.specs.Table.{Rows, Leaf, Case, leaf_row, prefixed}
use Rattle.link_base.specs.Default.{default_means}
use Rattle.link_common.specs.declared.link_info.LinkInfo.{LinkInfo}
use Rattle.link_common.specs.declared.link_info.LinkInfo.TheVariants as infos

-- one row for each attribute type
abbrev pub link_info_rows : Rows
link_info_rows = prefixed "IFLA_INFO_" (
    leaf_row 1 "IFLA_INFO_KIND" text ∷
    leaf_row 2 "IFLA_INFO_DATA" held ∷
    leaf_row 3 "IFLA_INFO_XSTATS" bytes ∷
    leaf_row 4 "IFLA_INFO_SLAVE_KIND" text ∷
    leaf_row 5 "IFLA_INFO_SLAVE_DATA" held ∷ [])

-- the attribute that a value represents
abbrev pub link_info_leaf : LinkInfo → Leaf
link_info_leaf (infos.Kind kind) = Case 1 (Raw kind.items)
link_info_leaf (infos.Data list) = Case 2 (Raw list.items)
link_info_leaf (infos.Xstats octets) = Case 3 (Raw octets.items)
link_info_leaf (infos.PortKind kind) = Case 4 (Raw kind.items)
link_info_leaf (infos.PortData list) = Case 5 (Raw list.items)
link_info_leaf (infos.Other other) = default_means other
