-- Texts of hex digits.
use Rattle.std.specs.Prelude.{◌≡◌, ◌==◌, ◌||◌, ℕ, Bool, not, List, Result, Ok, Err, IsErr}
use Rattle.std.specs.Global.{Vec}
use Rattle.std.specs.List.{filter}
use Rattle.hex.specs.Hex.{decode_of}
use Rattle.netlink_packet_route.specs.declared.hex_text.HexError.{HexError}
use Rattle.netlink_packet_route.specs.declared.hex_text.HexError.TheVariants as errors

-- true for space, tab, CR and LF
abbrev pub is_space : ℕ → Bool
is_space b = b == 32 || (b == 9 || (b == 13 || b == 10))

-- the text without its space, tab, CR and LF bytes
abbrev pub digits_of : List ℕ → List ℕ
digits_of text = filter (λ b. not (is_space b)) text

-- the bytes that the digits of a text encode; or that they are not valid hex
abbrev pub HexAnswers : List ℕ → Result (Vec ℕ) HexError → Type 0
HexAnswers text (Ok bytes) = decode_of (digits_of text) ≡ Ok bytes.items
HexAnswers text (Err errors.BadHex) = IsErr (decode_of (digits_of text))
HexAnswers text (Err (errors.Memory e)) = Unit {0}
