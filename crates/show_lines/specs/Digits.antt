-- The hex digits of a line, and the marks that may be among them.
use Rattle.std.specs.Prelude.{◌≡◌, ◌≤◌, ℕ, suc, ◌+◌, ◌-◌, ◌==◌, Bool, true, false, not, ◌&&◌, ◌||◌, List, [], ◌∷◌, ◌++◌, length, Result, Ok, Err, IsErr, codes, if◌then◌else◌}
use Rattle.std.specs.Fmt.{decimal}
use Rattle.std.specs.Global.{Vec}
use Rattle.hex.specs.Hex.{decode_of, is_hex_digit}
use Rattle.netlink_packet_route.specs.HexText.{is_space, digits_of}
use Rattle.show_lines.specs.declared.digits.Before.{Before}
use Rattle.show_lines.specs.declared.digits.Before.TheVariants.{Apart, Byte, Digit, Zero}
use Rattle.show_lines.specs.declared.digits.DigitsError.{DigitsError}
use Rattle.show_lines.specs.declared.digits.DigitsError.TheVariants as errors

-- an `x`, and a digit behind it
abbrev pub starts_prefixed : List ℕ → Bool
starts_prefixed [] = false
starts_prefixed (x ∷ []) = false
starts_prefixed (x ∷ digit ∷ rest) = (x == 120 || x == 88) && is_hex_digit digit

-- b is the `0` of a `0x` in front of a digit, if `rest` follows
abbrev pub is_prefix : ℕ → List ℕ → Bool
is_prefix b rest = b == 48 && starts_prefixed rest

-- b is skipped, by what precedes it and what follows: the `0` and the `x` of a `0x` in front of a byte, and a `:` behind a byte
abbrev pub is_mark : Before → ℕ → List ℕ → Bool
is_mark Apart b rest = is_prefix b rest
is_mark Byte b rest = b == 58 || is_prefix b rest
is_mark Digit b rest = false
is_mark Zero b rest = true

-- what precedes the next byte of the text
abbrev pub begun : ℕ → List ℕ → Before
begun b rest = if is_prefix b rest then Zero else (if is_hex_digit b then Digit else Apart)

abbrev pub after : Before → ℕ → List ℕ → Before
after Apart b rest = begun b rest
after Byte b rest = begun b rest
after Digit b rest = if is_hex_digit b then Byte else Digit
after Zero b rest = Apart

-- b, or a space in its place
abbrev pub plain : Before → ℕ → List ℕ → ℕ
plain before b rest = if is_mark before b rest then 32 else b

-- the rest of a text, with a space in the place of each mark
abbrev pub unmarked : Before → List ℕ → List ℕ
unmarked before [] = []
unmarked before (b ∷ rest) = plain before b rest ∷ unmarked (after before b rest) rest

-- a text, with a space in the place of each mark
abbrev pub without_marks : List ℕ → List ℕ
without_marks text = unmarked Apart text

-- neither a digit nor white space
abbrev pub is_bad : ℕ → Bool
is_bad b = not (is_hex_digit b) && not (is_space b)

-- the index of the last digit, if the byte b has the index `at`, and the last digit before it `last`
abbrev pub last_digit : ℕ → ℕ → ℕ → ℕ
last_digit b at last = if is_hex_digit b then at else last

-- the index of the first byte of s that is bad; if there is none, of the last digit. `at` is the index of the first byte, `last`
-- that of the last digit before it
abbrev pub bad_from : ℕ → ℕ → List ℕ → ℕ
bad_from at last [] = last
bad_from at last (b ∷ s) = if is_bad b then at else bad_from (suc at) (last_digit b at last) s

abbrev pub bad_at : List ℕ → ℕ
bad_at s = bad_from 0 0 s

-- the column of a line, from 1, at which the digits behind its command are not valid hex: `rest` are its last bytes
abbrev pub bad_column : List ℕ → List ℕ → ℕ
bad_column text rest = suc (length text - length rest + bad_at (without_marks rest))

-- what is said of a line whose digits are not valid hex
abbrev pub bad_hex : ℕ → List ℕ
bad_hex column = codes "bad hex at column " ++ decimal column

-- the bytes that a text encodes; or that it is not valid hex, and at which index
abbrev pub DecodesDigits : List ℕ → Result (Vec ℕ) DigitsError → Type 0
DecodesDigits text (Ok bytes) = decode_of (digits_of (without_marks text)) ≡ Ok bytes.items
DecodesDigits text (Err (errors.BadHex at)) = IsErr (decode_of (digits_of (without_marks text))) × (at ≡ bad_at (without_marks text)) × (at ≤ length text)
DecodesDigits text (Err errors.Memory) = Unit {0}
