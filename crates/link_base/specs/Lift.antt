-- A table without lists, as a table that may have lists.
use Rattle.std.specs.Prelude.{map}
use Rattle.link_base.specs.Class.{Class}
use Rattle.link_base.specs.Table.{Row, Rows, row_of, Leaf, Case, Other, Shape, One, Single, Table, AttrValue}

abbrev pub lift_row : Row Class → Row Shape
lift_row r = row_of r.prefix r.quantity r.kind r.name r.form r.names r.fields (One r.class)

abbrev pub lift_table : Rows → Table
lift_table rows = map lift_row rows

-- an attribute of a table without lists, as an attribute of that table
abbrev pub lift : Leaf → AttrValue
lift (Case k v) = Case k (Single v)
lift (Other f p) = Other f p
