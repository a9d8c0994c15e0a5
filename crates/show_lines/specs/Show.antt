-- The output for a line, and for an input of several lines.
use Rattle.std.specs.Prelude.{◌≡◌, ◌≢◌, ◌⊎◌, ℕ, suc, ◌<◌, ◌≤◌, ◌==◌, Bool, true, false, ◌||◌, List, [], ◌∷◌, ◌++◌, length, Option, Some, None, Result, Ok, Err, codes, if◌then◌else◌}
use Rattle.std.specs.Io.BufRead.{strip_last}
use Rattle.std.specs.List.{flat_map, list_all, AllByRecursion}
use Rattle.hex.specs.Hex.{decode_of}
use Rattle.hex.specs.declared.error.FromHexError.{FromHexError}
use Rattle.link_base.specs.WellFormed.{is_printable}
use Rattle.netlink_packet_route.specs.declared.family.Family.{Family}
use Rattle.netlink_packet_route.specs.Family.{family_name, table_of}
use Rattle.netlink_packet_route.specs.HexText.{is_space, digits_of}
use Rattle.netlink_packet_route.specs.Report.{line, most_text}
use Rattle.show_lines.specs.declared.asking.Asked.{Asked}
use Rattle.show_lines.specs.declared.asking.Asked.TheVariants.{Messages, Attributes, Verdict}
use Rattle.show_lines.specs.Digits.{bad_column, bad_hex, without_marks}
pub use Rattle.show_lines.specs.List.{IsUnbroken}
use Rattle.show_lines.specs.Messages.{ShowsMessages, ShowsLists}
use Rattle.show_lines.specs.declared.arguments.Options.{Options}
use Rattle.show_lines.specs.declared.arguments.Format.{Format}
use Rattle.show_lines.specs.declared.arguments.Format.TheVariants.{Plain, Debug}
use Rattle.link_show.specs.declared.line_options.LineOptions.{LineOptions}
use Rattle.link_show.specs.List.{EachShown, ShowsVerdict}
use Rattle.link_messages.specs.Held.{context_of}
use Rattle.link_show.specs.Held.{ShowsChecked}
use Rattle.link_show.specs.Message as plain
use Rattle.link_show.specs.Quoted.{quoted}

-- ---- a line

-- only white space
abbrev pub IsBlank : List ℕ → Type 0
IsBlank text = AllByRecursion (λ b. is_space b ≡ true) text

-- the first byte is `#`
abbrev pub IsComment : List ℕ → Type 0
IsComment [] = ⊥
IsComment (b ∷ text) = b ≡ 35

-- the line is a comment or blank, and therefore ignored
abbrev pub IsPassedOver : List ℕ → Type 0
IsPassedOver text = IsComment text ⊎ IsBlank text

-- empty, or starts with white space
abbrev pub IsApart : List ℕ → Type 0
IsApart [] = Unit {0}
IsApart (b ∷ text) = is_space b ≡ true

-- what precedes the first white space, and the rest
pub record IsCut (text word rest : List ℕ) : Type 0 where
  pub whole : text ≡ word ++ rest
  pub solid : AllByRecursion (λ b. is_space b ≡ false) word
  pub apart : IsApart rest

-- what follows the leading white space of a text
pub record IsSolidFirst (text rest : List ℕ) : Type 0 where
  pub space : List ℕ
  pub whole : text ≡ space ++ rest
  pub blank : IsBlank space
  pub solid : (b : ℕ) (behind : List ℕ) → rest ≡ b ∷ behind → is_space b ≡ false

-- the second word of a text whose first word is `check`, and the rest
pub record IsChecked (text word rest : List ℕ) : Type 0 where
  pub behind : List ℕ
  pub second : List ℕ
  pub first : IsCut text (codes "check") behind
  pub apart : IsSolidFirst behind second
  pub cut : IsCut second word rest

-- the command at the start of a text, and the rest, which holds the digits
abbrev pub Asks : List ℕ → Asked → List ℕ → Type 0
Asks text Messages rest = IsCut text (codes "message") rest
Asks text (Attributes family) rest = IsCut text (family_name family) rest
Asks text (Verdict family) rest = IsChecked text (family_name family) rest

-- the word is not the name of an attribute set
abbrev pub IsNoFamily : List ℕ → Type 0
IsNoFamily word = (family : Family) → word ≢ family_name family

-- the text has no valid command: its first word is not one, or it is `check` and the second word is not a name
pub data AsksNothing (text : List ℕ) : Type 0 where
  First : (word rest : List ℕ) → IsCut text word rest → word ≢ codes "message" → word ≢ codes "check" → IsNoFamily word → AsksNothing text
  Second : (word rest : List ℕ) → IsChecked text word rest → IsNoFamily word → AsksNothing text

-- what is written for commands: for a command and its bytes, the output, and whether it is well
abbrev pub Form : Type 1
Form = Asked → List ℕ → List ℕ → Bool → Type 0

-- as Rust's `Debug` prints values
abbrev pub ShowsDebug : Form
ShowsDebug Messages bytes = ShowsMessages bytes
ShowsDebug (Attributes family) bytes = ShowsLists family (0, bytes)
ShowsDebug (Verdict family) bytes = ShowsVerdict true [] 0 (table_of family) bytes

-- as people read values
abbrev pub ShowsPlain : LineOptions → Form
ShowsPlain lines Messages = plain.ShowsMessages lines
ShowsPlain lines (Attributes family) = ShowsChecked lines (context_of 0) (codes "  ") 0 family
ShowsPlain lines (Verdict family) = ShowsVerdict true [] 0 (table_of family)

-- by the option
abbrev pub ShowsAs : Format → LineOptions → Form
ShowsAs Debug lines = ShowsDebug
ShowsAs Plain lines = ShowsPlain lines

-- the output for messages that are on no line
abbrev pub ShowsBare : Options → List ℕ → List ℕ → Bool → Type 0
ShowsBare options = ShowsAs options.format options.lines Messages

-- what is written for a line that is refused: for its number, from 1, its text, unless that is too long, and the reason
abbrev pub Refused : Type 0
Refused = ℕ → Option (List ℕ) → List ℕ → List ℕ

-- what is written for a line with a command: for its number, from 1, and its text, as a form
abbrev pub Answered : Type 1
Answered = ℕ × List ℕ → Form

-- the output for the digits of a line: the one for the bytes that they encode, or that they are not valid hex at a column
abbrev pub ShowsDigits : Refused → Answered → ℕ × List ℕ → Asked → ℕ → Result (List ℕ) FromHexError → List ℕ → Bool → Type 0
ShowsDigits refused answered x asked column (Ok s) out read = answered x asked s out read
ShowsDigits refused answered x asked column (Err e) out read = (out ≡ refused x.0 (Some x.1) (bad_hex column)) × (read ≡ false)

-- the output for a line, with its number, and whether the line has no error
pub data ShowsLine (refused : Refused) (answered : Answered) (x : ℕ × List ℕ) (out : List ℕ) (read : Bool) : Type 0 where
  TooLong : most_text < length x.1 → out ≡ refused x.0 None (codes "input too long") → read ≡ false → ShowsLine refused answered x out read
  PassedOver : length x.1 ≤ most_text → IsPassedOver x.1 → out ≡ [] → read ≡ true → ShowsLine refused answered x out read
  Known : length x.1 ≤ most_text → ¬ IsPassedOver x.1 → (asked : Asked) (rest : List ℕ) → Asks x.1 asked rest → ShowsDigits refused answered x asked (bad_column x.1 rest) (decode_of (digits_of (without_marks rest))) out read → ShowsLine refused answered x out read
  Unknown : length x.1 ≤ most_text → ¬ IsPassedOver x.1 → AsksNothing x.1 → out ≡ refused x.0 (Some x.1) (codes "no such family") → read ≡ false → ShowsLine refused answered x out read

-- what is written for a line with this number, from 1: its output, and whether the line has no error
abbrev pub Shower : Type 1
Shower = ℕ × List ℕ → List ℕ → Bool → Type 0

-- what is written for a line, by what is written for one that is refused, and for one with a command
abbrev pub shower_of : {A : Type 0} → (A → Refused) → (A → Answered) → A → Shower
shower_of refused answered a = ShowsLine (refused a) (answered a)

-- ---- a line that is repeated

-- a printable ASCII character, or a tab
abbrev pub is_repeated : ℕ → Bool
is_repeated b = is_printable b || (b == 9)

-- a line as it is repeated: without the CR at its end, if the rest is printable ASCII and tabs; otherwise all of it, quoted
abbrev pub repeated : List ℕ → List ℕ
repeated text = if list_all is_repeated (strip_last 13 text) then strip_last 13 text else quoted text

-- ---- a line, by options

-- a line, unless it is too long, and the reason why it is refused
abbrev pub refusal : Option (List ℕ) → List ℕ → List ℕ
refusal None reason = line reason
refusal (Some text) reason = line (repeated text) ++ line reason

-- by options, whatever they are, and whatever the number of the line
abbrev pub refused_by_options : Options → Refused
refused_by_options options n = refusal

-- by options: the line, and what it asks for
abbrev pub answered_by_options : Options → Answered
answered_by_options options x asked s out read = (below : List ℕ) × ShowsAs options.format options.lines asked s below read × (out ≡ line (repeated x.1) ++ below)

abbrev pub by_options : Options → Shower
by_options = shower_of refused_by_options answered_by_options

-- ---- a text

-- the lines of a text: LF ends each, except that a non-empty last line may lack it
pub data AreLines (text : List ℕ) (lines : List (List ℕ)) : Type 0 where
  Ended : AllByRecursion IsUnbroken lines → text ≡ flat_map line lines → AreLines text lines
  Open : (front : List (List ℕ)) (last : List ℕ) → AllByRecursion IsUnbroken front → IsUnbroken last → 0 < length last → lines ≡ front ++ last ∷ [] → text ≡ flat_map line front ++ last
      → AreLines text lines

-- lines, each with its number, if the first has the number n
abbrev pub numbered : ℕ → List (List ℕ) → List (ℕ × List ℕ)
numbered n [] = []
numbered n (text ∷ lines) = (n, text) ∷ numbered (suc n) lines

-- the outputs for the lines of a text, in order, and whether no line has an error
pub record ShowsAll (shows : Shower) (text out : List ℕ) (whole : Bool) : Type 0 where
  pub lines : List (List ℕ)
  pub cut : AreLines text lines
  pub shown : EachShown shows (numbered 1 lines) out whole
