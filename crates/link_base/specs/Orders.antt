-- Numbers whose bytes are in either order.
use Rattle.std.specs.Prelude.{ℕ, List, reverse}
use Rattle.link_base.specs.declared.rows.form.Order.{Order}
use Rattle.link_base.specs.declared.rows.form.Order.TheVariants.{Little, Big}
use Rattle.link_base.specs.Number.{number, bytes_of, bytes_be}

-- the first n bytes of a number, in this order
abbrev pub bytes_by : Order → ℕ → ℕ → List ℕ
bytes_by Little n x = bytes_of n x
bytes_by Big n x = bytes_be n x

-- the number of these bytes
abbrev pub number_by : Order → List ℕ → ℕ
number_by Little bytes = number bytes
number_by Big bytes = number (reverse bytes)
