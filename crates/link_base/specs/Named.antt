-- Enums for numbers, some of which have names: a variant for each name and, in most, `Other` for every other number.
use Rattle.std.specs.Prelude.{◌≡◌, ◌⊎◌, ℕ, ◌+◌, ◌<◌, ◌^◌, ◌==◌, ◌&&◌, ◌||◌, not, Bool, true, List, [], ◌∷◌, ◌++◌, map, slice_index, codes, Result, Ok, Err, nat_lt, if◌then◌else◌}
use Rattle.std.specs.Fmt.{decimal}
use Rattle.std.specs.Char.{to_ascii_lowercase, is_ascii_digit}
use Rattle.std.specs.List.{list_any, list_all}
use Rattle.std.specs.Str.{bytes_eq}
use Rattle.std.specs.Str.Parse.{IsNumeral, digits_value, without_leading_plus}
use Rattle.link_base.specs.Class.{Value, Name, Unlisted, is_listed}
use Rattle.link_base.specs.declared.wire.fault.DecodeError.{DecodeError}
use Rattle.link_base.specs.declared.wire.fault.DecodeError.TheVariants as errors
use Rattle.link_base.specs.declared.wire.fault.DecodeFault.TheVariants as faults

-- a number that has a name: its variant, its `Display` output, the number
pub record Label (T : Type 0) : Type 0 where
  pub case : T
  pub text : List ℕ
  pub number : ℕ

-- makes a `Label`
abbrev pub label : {T : Type 0} → T → List ℕ → ℕ → Label T
label c t d = record { case = c; text = t; number = d }

-- the `Display` output for a number without a name: the number only, or for example `unknown-variant (9)`
pub data OtherText : Type 0 where
  Bare Unknown : OtherText

-- the strings that are accepted
pub data Accepted : Type 0 where
  -- none
  NoText : Accepted
  -- a name, case-sensitive, or the number of a name as one digit
  TextOrDigit : Accepted
  -- a name, case-sensitive, or any number below `2^bits`
  TextOrNumber : ℕ → Accepted
  -- a name, with ASCII case ignored
  AnyCase : Accepted

-- the names of a type, the value for a number without a name, and the strings; those in `further` are accepted in
-- addition, but never displayed
pub record Naming (T : Type 0) : Type 0 where
  pub labels : List (Label T)
  pub further : List (Label T)
  pub other : ℕ → T
  pub other_text : OtherText
  pub accepted : Accepted

-- the numbers that have names, each with its `Display` output
abbrev pub texts_of : {T : Type 0} → Naming T → List (ℕ × List ℕ)
texts_of names = map (λ l. (l.number, l.text)) names.labels

-- the numbers that have names
abbrev pub numbers_of : {T : Type 0} → Naming T → List ℕ
numbers_of names = map (λ x. x.0) (texts_of names)

-- the displayed names and the additional ones
abbrev pub all_labels : {T : Type 0} → Naming T → List (Label T)
all_labels names = names.labels ++ names.further

-- ---- numbers

-- the value for a number, by these labels
abbrev pub case_of : {T : Type 0} → List (Label T) → (ℕ → T) → ℕ → T
case_of [] other d = other d
case_of (l ∷ labels) other d = if l.number == d then l.case else case_of labels other d

-- the value for a number, by the names of a type
abbrev pub value_of : {T : Type 0} → Naming T → ℕ → T
value_of names d = case_of names.labels names.other d

-- what a value holds: a number that has a name, as its variant (`Listed`); or a number in `Other` (`Free`)
pub data Seen : Type 0 where
  Listed Free : ℕ → Seen

-- the number that a value holds
abbrev pub number_of : Seen → ℕ
number_of (Listed d) = d
number_of (Free d) = d

-- what a number decodes to
abbrev pub seen_of : List ℕ → ℕ → Seen
seen_of listed d = if is_listed listed d then Listed d else Free d

-- v holds this: v is the variant for a number that has a name, or `Other` of a number
abbrev pub IsSeen : {T : Type 0} → Naming T → T → Seen → Type 0
IsSeen names v (Listed d) = (is_listed (numbers_of names) d ≡ true) × (v ≡ value_of names d)
IsSeen names v (Free d) = v ≡ names.other d

-- the value of the class `Named` with n bytes
abbrev pub seen_value : ℕ → List ℕ → Seen → Value
seen_value n listed (Listed d) = Name n d
seen_value n listed (Free d) = Unlisted n listed d

-- `Other` of a number that has a name becomes the name
abbrev pub seen_canon : List ℕ → Seen → Seen
seen_canon listed (Listed d) = Listed d
seen_canon listed (Free d) = seen_of listed d

-- ---- `Display` output

-- the `Display` output for a number that has a name
abbrev pub text_of : {T : Type 0} → List (Label T) → ℕ → List ℕ
text_of [] d = []
text_of (l ∷ labels) d = if l.number == d then l.text else text_of labels d

-- the `Display` output for a number in `Other`
abbrev pub free_text : OtherText → ℕ → List ℕ
free_text Bare d = decimal d
free_text Unknown d = codes "unknown-variant (" ++ (decimal d ++ codes ")")

-- the `Display` output of a value
abbrev pub displayed : {T : Type 0} → Naming T → Seen → List ℕ
displayed names (Listed d) = text_of names.labels d
displayed names (Free d) = free_text names.other_text d

-- ---- accepted strings

-- a string with its ASCII letters in lower case
abbrev pub lower : List ℕ → List ℕ
lower text = map to_ascii_lowercase text

-- the string is an optional plus and the digits of this number, which is below `2^bits`; leading zeros are allowed
abbrev pub WritesNumber : ℕ → List ℕ → ℕ → Type 0
WritesNumber bits text d = IsNumeral 10 (without_leading_plus text) × (digits_value 10 (without_leading_plus text) ≡ d) × (d < 2 ^ bits)

-- the rule holds for a label of this value
abbrev pub HasLabel : {T : Type 0} → List (Label T) → T → (Label T → Type 0) → Type 0
HasLabel [] v rule = ⊥
HasLabel (l ∷ labels) v rule = ((l.case ≡ v) × rule l) ⊎ HasLabel labels v rule

-- the string is accepted for this value
abbrev pub AcceptsBy : {T : Type 0} → Accepted → Naming T → List ℕ → T → Type 0
AcceptsBy NoText names text v = ⊥
AcceptsBy TextOrDigit names text v = HasLabel (all_labels names) v (λ l. text ≡ l.text) ⊎ HasLabel names.labels v (λ l. text ≡ decimal l.number)
AcceptsBy (TextOrNumber bits) names text v = HasLabel (all_labels names) v (λ l. text ≡ l.text) ⊎ ((d : ℕ) × WritesNumber bits text d × (v ≡ value_of names d))
AcceptsBy AnyCase names text v = HasLabel (all_labels names) v (λ l. lower text ≡ lower l.text)

-- the string is accepted for this value by the rule of the type
abbrev pub Accepts : {T : Type 0} → Naming T → List ℕ → T → Type 0
Accepts names text v = AcceptsBy names.accepted names text v

-- the value for which the string is accepted; or the error `Text` if it is accepted for none
abbrev pub ReadsText : {T : Type 0} → Naming T → List ℕ → Result T DecodeError → Type 0
ReadsText names text (Ok v) = Accepts names text v
ReadsText {T} names text (Err e) = (e ≡ errors.Fault faults.Text) × ((v : T) → ¬ (Accepts names text v))

-- ---- distinct names: decidable tests

-- no key is equal to a later one
abbrev pub are_distinct : {K : Type 0} → (K → K → Bool) → List K → Bool
are_distinct eq [] = true
are_distinct eq (k ∷ ks) = not (list_any (λ x. eq x k) ks) && are_distinct eq ks

-- a digit or a plus: how every number begins
abbrev pub begins_number : ℕ → Bool
begins_number c = is_ascii_digit c || c == 43

-- no string also parses as a number
abbrev pub are_told_apart : {T : Type 0} → Accepted → Naming T → Bool
are_told_apart NoText names = true
are_told_apart TextOrDigit names =
    list_all (λ l. nat_lt l.number 10 && not (list_any (λ text. bytes_eq text ((48 + l.number) ∷ [])) (map (λ m. m.text) (all_labels names)))) names.labels
are_told_apart (TextOrNumber bits) names = list_all (λ l. not (begins_number (slice_index l.text 0))) (all_labels names)
are_told_apart AnyCase names = true

-- the numbers are distinct; all strings are distinct even if ASCII case is ignored, and none also parses as a number
abbrev pub is_naming : {T : Type 0} → Naming T → Bool
is_naming names =
    are_distinct (λ a b. a == b) (numbers_of names)
    && (are_distinct bytes_eq (map (λ l. lower l.text) (all_labels names)) && are_told_apart names.accepted names)
