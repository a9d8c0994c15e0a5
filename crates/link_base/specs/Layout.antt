-- Numbers at offsets in a payload, and consecutive numbers: fields of structs, and arrays of numbers.
use Rattle.std.specs.Prelude.{ℕ, zero, suc, ◌+◌, ◌/◌, List, [], ◌∷◌, length, take, drop}
use Rattle.std.specs.List.{flat_map}
use Rattle.link_base.specs.Number.{number, bytes_of}

-- the little-endian number of `width` bytes at an offset
abbrev pub number_at : ℕ → ℕ → List ℕ → ℕ
number_at width offset p = number (take width (drop offset p))

-- n consecutive numbers of `width` bytes each, starting at an offset
abbrev pub numbers_at : ℕ → ℕ → ℕ → List ℕ → List ℕ
numbers_at width zero offset p = []
numbers_at width (suc n) offset p = number_at width offset p ∷ numbers_at width n (offset + width) p

-- the numbers of `width` bytes each in a payload
abbrev pub numbers_of : ℕ → List ℕ → List ℕ
numbers_of width p = numbers_at width (length p / width) 0 p

-- the bytes of consecutive numbers, `width` for each
abbrev pub octets_of : ℕ → List ℕ → List ℕ
octets_of width numbers = flat_map (bytes_of width) numbers

-- the same of values that are numbers
abbrev pub octets_by : {A : Type 0} → ℕ → (A → ℕ) → List A → List ℕ
octets_by width value xs = flat_map (λ x. bytes_of width (value x)) xs
