-- Numbers, with what they count.
use Rattle.std.specs.Prelude.{ℕ, ◌/◌, ◌%◌, List, [], ◌∷◌, ◌++◌, map, codes}
use Rattle.std.specs.Fmt.{decimal, signed_decimal}
use Rattle.std.specs.Int.{w32, cast_signed}
use Rattle.link_base.specs.declared.rows.form.ArrayOf.{ArrayOf}
use Rattle.link_base.specs.declared.rows.form.ArrayOf.TheVariants.{I32}
use Rattle.link_base.specs.declared.rows.label.Quantity.{Quantity}
use Rattle.link_base.specs.declared.rows.label.Quantity.TheVariants as quantities
use Rattle.link_show.specs.Text.{hex_number, empty_text, joined}

-- clock ticks, which are hundredths of a second, in seconds
abbrev pub seconds_of : ℕ → List ℕ
seconds_of n = decimal (n / 100) ++ (codes "." ++ (decimal (n / 10 % 10) ++ decimal (n % 10)))

-- a text after another, in parentheses
abbrev pub beside : List ℕ → List ℕ → List ℕ
beside text more = text ++ (codes " (" ++ (more ++ codes ")"))

-- what is written after a number, or after several
abbrev pub unit_of : Quantity → List ℕ
unit_of quantities.Milliseconds = codes " ms"
unit_of quantities.Seconds = codes " s"
unit_of quantities.BitsPerSecond = codes " bit/s"
unit_of quantities.Ohms = codes " ohm"
unit_of quantities.Nanoseconds = codes " ns"
unit_of quantities.Hertz = codes " Hz"
unit_of quantity = []

-- a number that counts something
abbrev pub number_text : Quantity → ℕ → List ℕ
number_text quantities.ClockTicks n = beside (decimal n) (seconds_of n ++ codes " s")
number_text quantities.InterfaceIndex n = codes "ifindex " ++ decimal n
number_text quantities.Mask n = beside (decimal n) (hex_number n)
number_text quantity n = decimal n ++ unit_of quantity

-- the number of an array whose bytes are those of n
abbrev pub item_text : ArrayOf → ℕ → List ℕ
item_text I32 n = signed_decimal (cast_signed w32 n)
item_text a n = decimal n

-- such numbers, with what they count at the end
unfoldable pub array_text : Quantity → ArrayOf → List ℕ → List ℕ
array_text quantity a [] = empty_text
array_text quantity a (n ∷ numbers) = joined (codes " ") (map (item_text a) (n ∷ numbers)) ++ unit_of quantity
