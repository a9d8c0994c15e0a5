-- What the numbers of entries count, as `enum nlroute_unit` of the C API numbers it.
use Rattle.std.specs.Prelude.{ℕ, Option, Some, None}
use Rattle.link_base.specs.declared.rows.label.Quantity.{Quantity}
use Rattle.link_base.specs.declared.rows.label.Quantity.TheVariants as quantities
use Rattle.link_base.specs.Table.{Table, Label, label_at}

-- a quantity of the tables
abbrev pub unit_of : Quantity → ℕ
unit_of quantities.Number = 0
unit_of quantities.ClockTicks = 1
unit_of quantities.Milliseconds = 2
unit_of quantities.Seconds = 3
unit_of quantities.BitsPerSecond = 4
unit_of quantities.Ohms = 5
unit_of quantities.Nanoseconds = 6
unit_of quantities.Hertz = 7
unit_of quantities.InterfaceIndex = 8
unit_of quantities.Mask = 9

-- that of an attribute type; of one without a row, that of a number which counts nothing
abbrev pub unit_in : Option Label → ℕ
unit_in None = unit_of quantities.Number
unit_in (Some label) = unit_of label.quantity

abbrev pub unit_at : Table → ℕ → ℕ
unit_at table k = unit_in (label_at table k)
