-- The options of an interface.
use Rattle.std.specs.Prelude.{◌≡◌, ◌≢◌, ◌⊎◌, ◌<◌, ◌≤◌, ℕ, ◌+◌, ◌==◌, ℤ, pos, List, [], ◌∷◌, length, take, drop, slice_index, Option, Some, None, option_map, Result, Ok, Err, nat_lt, if◌then◌else◌}
use Rattle.std.specs.Borrow.{Bor}
use Rattle.link_capture.specs.declared.error.InputError.{InputError}
use Rattle.link_capture.specs.declared.error.InputError.TheVariants as errors
use Rattle.link_capture.specs.declared.options.Clock.{Clock}
use Rattle.link_capture.specs.declared.order.Order.{Order}
use Rattle.link_capture.specs.Order.{number_at, signed_at}
use Rattle.link_capture.specs.Front.{gap}

-- ---- options

-- an option: its code and its value
abbrev pub Coded : Type 0
Coded = ℕ × List ℕ

-- no option: fewer bytes than its header has, or code 0
abbrev pub HasNoOption : Order → List ℕ → Type 0
HasNoOption order s = (length s < 4) ⊎ (number_at order 2 0 s ≡ 0)

-- an option has a header: a code that is not 0, and the length of the value
abbrev pub HasHeader : Order → List ℕ → ℕ → ℕ → Type 0
HasHeader order s code size = (4 ≤ length s) × (code ≢ 0) × (code ≡ number_at order 2 0 s) × (size ≡ number_at order 2 2 s)

-- s starts with an option, which is padded to a multiple of four; and the bytes after it
pub record BeginsWithOption (order : Order) (s : List ℕ) (option : Coded) (rest : List ℕ) : Type 0 where
  pub header : HasHeader order s option.0 (length option.1)
  pub fits : 4 + length option.1 ≤ length s
  pub value : option.1 ≡ take (length option.1) (drop 4 s)
  pub after : rest ≡ drop (4 + (length option.1 + gap (length option.1))) s

-- the length of an option exceeds the bytes that are left after its header
abbrev pub IsOverrun : Order → List ℕ → InputError → Type 0
IsOverrun order s error =
    (code : ℕ) × ((size : ℕ) × HasHeader order s code size × (length s < 4 + size) × (error ≡ errors.OptionOverrun code size (length (drop 4 s))))

-- the options in s, up to code 0 or to the end; or up to one whose length is wrong
abbrev pub AreOptions : Order → List ℕ → List Coded → Option InputError → Type 0
AreOptions order s [] None = HasNoOption order s
AreOptions order s [] (Some error) = IsOverrun order s error
AreOptions order s (o ∷ options) fault = (rest : List ℕ) × BeginsWithOption order s o rest × AreOptions order rest options fault

-- the value of the first option with this code
abbrev pub first_value : ℕ → List Coded → Option (List ℕ)
first_value code [] = None
first_value code (o ∷ options) = if o.0 == code then Some o.1 else first_value code options

-- the bytes of a value
abbrev pub value_of : Option (Bor (List ℕ)) → Option (List ℕ)
value_of value = option_map (λ v. v.now) value

-- the values of the first `if_tsresol` and the first `if_tsoffset` among the options in s
abbrev pub HasValues : Order → List ℕ → Option (List ℕ) → Option (List ℕ) → Type 0
HasValues order s resolution offset =
    (options : List Coded) × AreOptions order s options None × (resolution ≡ first_value 9 options) × (offset ≡ first_value 14 options)

-- ---- what an interface says of its times

-- `if_tsresol`: the digits of a second; 6, if it is absent
abbrev pub digits_in : Option (List ℕ) → Result ℕ InputError
digits_in None = Ok 6
digits_in (Some value) =
    if length value == 1 then (if nat_lt 9 (slice_index value 0) then Err (errors.Resolution (slice_index value 0)) else Ok (slice_index value 0))
    else Err (errors.ResolutionLength (length value))

-- `if_tsoffset`: seconds to add; 0, if it is absent
abbrev pub offset_in : Order → Option (List ℕ) → Result ℤ InputError
offset_in order None = Ok (pos 0)
offset_in order (Some value) = if length value == 8 then Ok (signed_at order 0 value) else Err (errors.OffsetLength (length value))

-- both, or the first error
abbrev pub clock_by : Result ℕ InputError → Result ℤ InputError → Result Clock InputError
clock_by (Err error) offset = Err error
clock_by (Ok digits) (Err error) = Err error
clock_by (Ok digits) (Ok offset) = Ok (record { digits = digits; offset = offset })

-- what the options in s say of times; or the first error
abbrev pub clock_of : Order → List Coded → Option InputError → Result Clock InputError
clock_of order options (Some error) = Err error
clock_of order options None = clock_by (digits_in (first_value 9 options)) (offset_in order (first_value 14 options))

abbrev pub IsClock : Order → List ℕ → Result Clock InputError → Type 0
IsClock order s clock =
    (options : List Coded) × ((fault : Option InputError) × AreOptions order s options fault × (clock ≡ clock_of order options fault))
