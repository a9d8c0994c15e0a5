-- Further properties of a link.
use Rattle.std.specs.Prelude.{[], ◌∷◌}
use Rattle.link_base.specs.Class.{Raw}
use Rattle.link_base.specs.Payloads.{text}
use Rattle.link_base.specs.Table.{Rows, Leaf, Case, leaf_row, prefixed}
use Rattle.link_base.specs.Default.{default_means}
use Rattle.link_common.specs.declared.link_property.LinkProperty.{LinkProperty}
use Rattle.link_common.specs.declared.link_property.LinkProperty.TheVariants as infos

-- one row for each attribute type
abbrev pub link_property_rows : Rows
link_property_rows = prefixed "IFLA_" (leaf_row 53 "IFLA_ALT_IFNAME" text ∷ [])

-- the attribute that a value represents
abbrev pub link_property_leaf : LinkProperty → Leaf
link_property_leaf (infos.AltIfName name) = Case 53 (Raw name.items)
link_property_leaf (infos.Other other) = default_means other
