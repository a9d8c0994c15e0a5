-- The texts of errors.
use Rattle.std.specs.Prelude.{ℕ, ◌==◌, List, ◌++◌, Bool, false, Option, Some, None, codes, if◌then◌else◌}
use Rattle.std.specs.Fmt.{decimal}
use Rattle.link_base.specs.declared.wire.fault.Cause.{Cause}
use Rattle.link_base.specs.declared.wire.fault.Cause.TheVariants as causes
use Rattle.link_base.specs.declared.wire.fault.DecodeFault.{DecodeFault}
use Rattle.link_base.specs.declared.wire.fault.DecodeFault.TheVariants as faults
use Rattle.link_base.specs.Coherent.{is_array as is_array_form}
use Rattle.link_base.specs.Table.{Label, Table, label_at}
use Rattle.link_base.specs.Borrowed.{elements_at}

-- a number of bytes
abbrev pub byte_word : ℕ → List ℕ
byte_word n = if n == 1 then codes " byte" else codes " bytes"

abbrev pub bytes_text : ℕ → List ℕ → List ℕ
bytes_text n more = decimal n ++ (byte_word n ++ more)

-- how long data is that no attribute set reads
abbrev pub opaque_text : ℕ → List ℕ
opaque_text n = codes "(" ++ bytes_text n (codes ", not decoded)")

-- what is before the length that is expected of a payload, which may be an array of numbers
abbrev pub expected_word : Bool → List ℕ
expected_word is_array = if is_array then codes ", expected a multiple of " else codes ", expected "

-- why an attribute or a payload is malformed
abbrev pub cause_words : Bool → Cause → List ℕ
cause_words is_array (causes.ShortFrame left) = bytes_text left (codes " left, too few for an attribute header")
cause_words is_array (causes.SmallLength n) = codes "nla_len " ++ (decimal n ++ codes " is below 4")
cause_words is_array (causes.Overrun n left) = (codes "nla_len " ++ (decimal n ++ codes " exceeds the ")) ++ bytes_text left (codes " left")
cause_words is_array (causes.WrongLength want got) = codes "has " ++ bytes_text got (expected_word is_array ++ decimal want)
cause_words is_array (causes.TooShort want got) = codes "has " ++ bytes_text got (codes ", expected at least " ++ decimal want)
cause_words is_array (causes.AddressLength got) = codes "has " ++ bytes_text got (codes ", expected 4 or 16")

-- the name of an attribute type k; its number, if it has none
abbrev pub kind_text : Option Label → ℕ → List ℕ
kind_text None k = codes "type " ++ decimal k
kind_text (Some label) k = label.name

-- whether payloads are arrays of numbers
abbrev pub is_array : Option Label → Bool
is_array None = false
is_array (Some label) = is_array_form label.form

-- the error of a payload
abbrev pub payload_fault : Option Label → ℕ → Cause → List ℕ
payload_fault label k cause = kind_text label k ++ (codes " " ++ cause_words (is_array label) cause)

-- an error, in a list of this table
abbrev pub fault_text : Table → DecodeFault → List ℕ
fault_text table (faults.Frame cause) = cause_words false cause
fault_text table (faults.Value k cause) = payload_fault (label_at table k) k cause
fault_text table (faults.NestedFrame k cause) = kind_text (label_at table k) k ++ (codes ": " ++ cause_words false cause)
fault_text table (faults.NestedValue k inner cause) =
    kind_text (label_at table k) k ++ (codes ": " ++ payload_fault (label_at (elements_at table k) inner) inner cause)
fault_text table (faults.Payload cause) = cause_words false cause
fault_text table faults.Text = codes "unknown text"
