-- Numbers in the byte order of a file.
use Rattle.std.specs.Prelude.{ℕ, ℤ, List, drop}
use Rattle.std.specs.Int.{w64, cast_signed}
use Rattle.byteorder.specs.Endian.{big_number, little_number}
use Rattle.link_capture.specs.declared.order.Order.{Order}
use Rattle.link_capture.specs.declared.order.Order.TheVariants.{Little, Big}

-- the number in the first n bytes
abbrev pub number_in : Order → ℕ → List ℕ → ℕ
number_in Little n s = little_number n s
number_in Big n s = big_number n s

-- the number in n bytes at an offset
abbrev pub number_at : Order → ℕ → ℕ → List ℕ → ℕ
number_at order n at s = number_in order n (drop at s)

-- the number in eight bytes at an offset, in two's complement
abbrev pub signed_at : Order → ℕ → List ℕ → ℤ
signed_at order at s = cast_signed w64 (number_at order 8 at s)
