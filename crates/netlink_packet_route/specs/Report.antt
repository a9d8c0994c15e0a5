-- The output and the exit status of the program `nlroute` for an attribute set and an input.
use Rattle.std.specs.Prelude.{◌≡◌, ◌≢◌, ℕ, ◌<◌, ◌≤◌, List, [], ◌∷◌, ◌++◌, length, Result, Ok, Err, codes}
use Rattle.std.specs.List.{flat_map, AllByRecursion}
use Rattle.std.specs.Fmt.{decimal}
use Rattle.hex.specs.Hex.{decode_of, encode_lower}
use Rattle.hex.specs.declared.error.FromHexError.{FromHexError}
use Rattle.link_base.specs.declared.wire.fault.DecodeFault.{DecodeFault}
use Rattle.link_base.specs.Wire.{Wire, FirstFault}
use Rattle.link_base.specs.Table.{Table, AttrValue, Gives, Fits, written_kind, written_payload, written_list}
use Rattle.link_base.specs.Texts.{fault_text}
use Rattle.link_base.specs.Answers.{IsFirstUnfit}
use Rattle.netlink_packet_route.specs.HexText.{digits_of}

-- ---- lines

-- a line: the text and LF
abbrev pub line : List ℕ → List ℕ
line text = text ++ 10 ∷ []

-- the line that reports a decode error and the byte offset of its attribute
abbrev pub fault_line : ℕ → DecodeFault → List ℕ
fault_line at fault = codes "fault at " ++ (decimal at ++ (codes ": " ++ line (fault_text fault)))

-- the line that reports the index of the first value that does not fit
abbrev pub too_long_line : ℕ → List ℕ
too_long_line i = line (codes "too long at " ++ decimal i)

-- the line of an attribute: its `nla_type` and the length of its payload
abbrev pub attr_line_of : ℕ → ℕ → List ℕ
attr_line_of kind_field size = line (codes "attr " ++ (decimal kind_field ++ (codes " len " ++ decimal size)))

-- the line of a value: its encoded `nla_type`, and the length of its encoded payload
abbrev pub attr_line : AttrValue → List ℕ
attr_line v = attr_line_of (written_kind v) (length (written_payload v))

-- the line with the output bytes in hex
abbrev pub out_line : List ℕ → List ℕ
out_line [] = line (codes "out")
out_line (b ∷ bytes) = line (codes "out " ++ encode_lower (b ∷ bytes))

-- the lines of all values, then the line with their encoding in hex
abbrev pub value_lines : List AttrValue → List ℕ
value_lines vs = flat_map attr_line vs ++ out_line (written_list vs)

-- whether the output bytes equal the input bytes
pub data Verdict (written read text : List ℕ) : Type 0 where
  Same : written ≡ read → text ≡ line (codes "same") → Verdict written read text
  Changed : written ≢ read → text ≡ line (codes "changed") → Verdict written read text

-- ---- output and exit status

pub data Prints (table : Table) (s out : List ℕ) (status : ℕ) : Type 0 where
  -- all values fit
  Success : (vs : List AttrValue) (verdict : List ℕ) → Wire (Gives table) s vs → AllByRecursion Fits vs → Verdict (written_list vs) s verdict
      → out ≡ value_lines vs ++ verdict → status ≡ 0 → Prints table s out status
  -- the input is malformed
  Fault : (at : ℕ) (fault : DecodeFault) → FirstFault (Gives table) s at fault → out ≡ fault_line at fault → status ≡ 1 → Prints table s out status
  -- a value does not fit
  TooLong : (vs : List AttrValue) (i : ℕ) → Wire (Gives table) s vs → IsFirstUnfit vs i → out ≡ too_long_line i → status ≡ 3 → Prints table s out status

-- the output for digits: the one for the bytes that they encode, or `bad hex` if they are not valid hex
abbrev pub PrintsDigits : Table → Result (List ℕ) FromHexError → List ℕ → ℕ → Type 0
PrintsDigits table (Ok s) out status = Prints table s out status
PrintsDigits table (Err e) out status = (out ≡ line (codes "bad hex")) × (status ≡ 2)

-- the maximum length of an input, in bytes
abbrev pub most_text : ℕ
most_text = 262144

-- the output for an input: the one for its digits if it has at most `most_text` bytes, otherwise `input too long`
pub data Reports (table : Table) (text : List ℕ) (out : List ℕ) (status : ℕ) : Type 0 where
  Short : length text ≤ most_text → PrintsDigits table (decode_of (digits_of text)) out status → Reports table text out status
  Long : most_text < length text → out ≡ line (codes "input too long") → status ≡ 2 → Reports table text out status
