-- The text of an instant.
use Rattle.std.specs.Prelude.{◌≡◌, ℤ, pos, List, ◌++◌, Some, codes}
use Rattle.std.specs.Prelude.{ℕ, false}
use Rattle.jiff_core.specs.Calendar.{IsBetween}
use Rattle.jiff_core.specs.DateTime.{civil_nanos}
use Rattle.jiff_core.specs.declared.civil.datetime.DateTime.{DateTime}
use Rattle.jiff_fmt.specs.Text.{datetime_text, zulu_text}
use Rattle.link_capture.specs.declared.event.Time.{Time}

-- the instant has a text: it is not before 1970, and the calendar has it
abbrev pub HasText : ℤ → Type 0
HasText n = IsBetween (pos 0) (pos 253_402_207_200_999_999_999) n

-- what a clock in UTC shows, as `2026-11-27T19:06:35.705255Z`, with the digits of a second that the file has
abbrev pub IsUtcText : Time → List ℕ → Type 0
IsUtcText time text = (clock : DateTime) × (civil_nanos clock ≡ time.nanosecond) × (text ≡ datetime_text false 84 (Some time.digits) clock ++ zulu_text false)

-- the text of an instant in UTC, or that it has none
pub data IsTimeText (time : Time) (text : List ℕ) : Type 0 where
  InRange : HasText time.nanosecond → IsUtcText time text → IsTimeText time text
  OutOfRange : ¬ HasText time.nanosecond → text ≡ codes "out of range" → IsTimeText time text
