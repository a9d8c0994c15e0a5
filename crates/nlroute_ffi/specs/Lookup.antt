-- Attribute sets, attribute types and numbers, looked up by their names; and what entries of a type hold.
use Rattle.std.specs.Prelude.{◌≡◌, ◌≢◌, ℕ, ℤ, pos, int_lt, codes, ◌<◌, List, [], ◌∷◌, Option, Some, None, option_map, Result, Ok, Err, bytes_eq, if◌then◌else◌}
use Rattle.link_base.specs.Frame.{kind_limit}
use Rattle.link_base.specs.Table.{Table, Label, label_at}
use Rattle.link_base.specs.Borrowed.{elements_at}
use Rattle.netlink_packet_route.specs.declared.family.Family.{Family}
use Rattle.netlink_packet_route.specs.Family.{Holding, IsOneOf, family_name, family_number, holders_of, table_of}
use Rattle.link_entries.specs.declared.entry.Entry.{Entry}
use Rattle.link_entries.specs.declared.row.Row.{Row}
use Rattle.link_entries.specs.Rows.{row_of_type}
use Rattle.nlroute_ffi.specs.declared.refusal.Refusal.{Refusal}
use Rattle.nlroute_ffi.specs.declared.refusal.Refusal.TheVariants.{Fault, TooLong, Memory, NoRoom, NoFamily, Absent, BadForm, BadNumber, BadElement, BadOctets, BadType, NoIndex, BadName, NoSet, BadDepth, Repeated}
use Rattle.nlroute_ffi.specs.Numbers.{code_of}
use Rattle.nlroute_ffi.specs.Buffers.{Stores}
use Rattle.nlroute_ffi.specs.Names.{label_for}

-- ---- attribute sets

abbrev pub FamilyNameAnswers : List ℕ → List ℕ → Family → Result ℕ Refusal → Type 0
FamilyNameAnswers old new family (Ok n) = Stores (family_name family) old new n
FamilyNameAnswers old new family (Err refusal) = ⊥

-- the number of the attribute set with this name; or there is none
abbrev pub FamilyOfAnswers : List ℕ → Result ℕ Refusal → Type 0
FamilyOfAnswers name (Ok n) = (family : Family) × (n ≡ family_number family) × (name ≡ family_name family)
FamilyOfAnswers name (Err NoFamily) = (family : Family) → name ≢ family_name family
FamilyOfAnswers name (Err refusal) = ⊥

-- the number of the attribute set whose lists this holds; or it holds those of none
abbrev pub HeldByAnswers : Holding → Result ℕ Refusal → Type 0
HeldByAnswers holding (Ok n) = (family : Family) × (n ≡ family_number family) × IsOneOf holding (holders_of family)
HeldByAnswers holding (Err NoFamily) = (family : Family) → IsOneOf holding (holders_of family) → ⊥
HeldByAnswers holding (Err refusal) = ⊥

-- ---- attribute types

-- the name of an attribute type, if it has a row
abbrev pub name_at : Table → ℕ → Option (List ℕ)
name_at table k = option_map (λ label. label.name) (label_at table k)

-- the least attribute type with this name; or there is none
abbrev pub FindsKind : Table → List ℕ → Result ℕ Refusal → Type 0
FindsKind table name (Ok k) = (k < kind_limit) × (name_at table k ≡ Some name) × ((j : ℕ) → j < k → name_at table j ≢ Some name)
FindsKind table name (Err Absent) = (j : ℕ) → j < kind_limit → name_at table j ≢ Some name
FindsKind table name (Err refusal) = ⊥

abbrev pub KindOfAnswers : List ℕ → Family → Result ℕ Refusal → Type 0
KindOfAnswers name family result = FindsKind (table_of family) name result

abbrev pub KindOfInAnswers : ℕ → List ℕ → Family → Result ℕ Refusal → Type 0
KindOfInAnswers list name family result = FindsKind (elements_at (table_of family) list) name result

-- what entries of the type hold; or it has no elements, or the depth is greater than 1
abbrev pub RowAnswers : ℕ → ℕ → ℕ → Row → Family → Result ℕ Refusal → Type 0
RowAnswers kind inner depth new family (Ok n) = (n ≡ 0) × (row_of_type (table_of family) kind inner depth ≡ Some new)
RowAnswers kind inner depth new family (Err BadElement) = row_of_type (table_of family) kind inner depth ≡ None
RowAnswers kind inner depth new family (Err refusal) = ⊥

-- ---- numbers

-- the first number with this name
abbrev pub number_in : List (ℕ × List ℕ) → List ℕ → Option ℕ
number_in [] name = None
number_in (x ∷ names) name = if bytes_eq x.1 name then Some x.0 else number_in names name

abbrev pub number_named : Option Label → List ℕ → Option ℕ
number_named None name = None
number_named (Some label) name = number_in label.names name

-- the number is that of the name; or no number of the type has it
abbrev pub NumberOfAnswers : Entry → List ℕ → ℕ → Family → Result ℕ Refusal → Type 0
NumberOfAnswers e name new family (Ok n) = (n ≡ 0) × (number_named (label_for family e) name ≡ Some new)
NumberOfAnswers e name new family (Err Absent) = number_named (label_for family e) name ≡ None
NumberOfAnswers e name new family (Err refusal) = ⊥

-- ---- error codes

-- the meaning of an error code, in words
abbrev pub refusal_words : Refusal → List ℕ
refusal_words Fault = codes "the list is malformed"
refusal_words TooLong = codes "a value does not fit in an attribute"
refusal_words Memory = codes "an allocation failed"
refusal_words NoRoom = codes "the buffer is too small"
refusal_words NoFamily = codes "no attribute set has this number"
refusal_words Absent = codes "there is no such attribute, element, field, name or error"
refusal_words BadForm = codes "the value has another form"
refusal_words BadNumber = codes "the attribute cannot hold the number"
refusal_words BadElement = codes "an element does not follow its list"
refusal_words BadOctets = codes "the bytes of the value are not in the input, or have a wrong length"
refusal_words BadType = codes "the message is not a request about links"
refusal_words NoIndex = codes "the index of the link is 0 or negative"
refusal_words BadName = codes "Linux does not take the name or kind"
refusal_words NoSet = codes "no attribute set reads the list of these values"
refusal_words BadDepth = codes "the value has a wrong depth, or is not marked as one of the message"
refusal_words Repeated = codes "the message has a second list of this type"

-- the text of a code: of an error, another one, or of a result that is no error
abbrev pub IsCodeText : ℤ → List ℕ → Type 0
IsCodeText code words =
    ((refusal : Refusal) → code ≡ code_of (Err refusal) → words ≡ refusal_words refusal)
    × (((refusal : Refusal) → code ≢ code_of (Err refusal)) → words ≡ (if int_lt code (pos 0) then codes "unknown error" else codes "no error"))

-- the buffer has the text
abbrev pub CodeTextAnswers : ℤ → List ℕ → List ℕ → Result ℕ Refusal → Type 0
CodeTextAnswers code old new (Ok n) = (words : List ℕ) × IsCodeText code words × Stores words old new n
CodeTextAnswers code old new (Err refusal) = ⊥
