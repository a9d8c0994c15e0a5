-- What is written for an input.
use Rattle.std.specs.Prelude.{ℕ, Bool, List}
use Rattle.link_capture.specs.declared.error.InputError.{InputError}
use Rattle.link_capture.specs.declared.event.Time.{Time}
use Rattle.link_capture.specs.declared.other_format.OtherFormat.{OtherFormat}
use Rattle.link_capture.specs.Meaning.{Captured}
use Rattle.show_lines.specs.Show.{Shower, Refused, Answered}
use Rattle.show_lines.specs.Show.{shower_of as lines_of}

-- what is written for units: for a packet with this number, from 1, its output, and whether it has no error; likewise for a
-- message of a raw stream; for the record of a time, its output; for an error that ends an input, at an offset; and for a file in
-- another format, in place of all output
pub record UnitShower : Type 1 where
  pub packets : ℕ → Captured → List ℕ → Bool → Type 0
  pub messages : List ℕ → List ℕ → Bool → Type 0
  pub times : Time → List ℕ → Type 0
  pub errors : ℕ → InputError → List ℕ
  pub formats : OtherFormat → List ℕ

-- what is written for lines, and for units
pub record InputShower : Type 1 where
  pub lines : Shower
  pub units : UnitShower

abbrev pub shower_of : {A : Type 0} → (A → Refused) → (A → Answered) → (A → UnitShower) → A → InputShower
shower_of refused answered units a = record { lines = lines_of refused answered a; units = units a }
