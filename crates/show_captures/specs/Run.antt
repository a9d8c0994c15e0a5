-- What a run reads of an input and writes.
use Rattle.std.specs.Prelude.{◌≡◌, ℕ, Bool, false, List, [], ◌++◌, Option, Some, None, Result, Ok, Err, if◌then◌else◌}
use Rattle.std.specs.Io.KnownBytes.{Appends, Consumes, IsAtEnd}
use Rattle.link_base.specs.Number.{IsBytes}
use Rattle.link_capture.specs.declared.form.Form.{Form}
use Rattle.link_capture.specs.declared.form.Form.TheVariants.{Messages}
use Rattle.link_capture.specs.declared.other_format.OtherFormat.{OtherFormat}
use Rattle.link_capture.specs.Form.{form_of}
use Rattle.link_show.specs.Printable.{AreTexts}
use Rattle.show_lines.specs.Show.{ShowsAll}
use Rattle.show_lines.specs.Printed.{Repeats}
use Rattle.show_captures.specs.Event.{ShowsCapture}
use Rattle.show_captures.specs.Shower.{UnitShower, InputShower}

-- the output for an input: its form, if it is no lines, is that of a raw stream, or by its first bytes
abbrev pub ShowsForm : InputShower → Option Form → List ℕ → List ℕ → Bool → Type 0
ShowsForm shower None = ShowsAll shower.lines
ShowsForm shower (Some form) = ShowsCapture shower.units form

-- what an input is that begins with s: messages, if it is a raw stream; otherwise, by its first bytes, a capture, a file in
-- another format, or lines, which have no form
abbrev pub input_form : Bool → List ℕ → Result (Option Form) OtherFormat
input_form raw s = if raw then Ok (Some Messages) else form_of s

-- the output for a file: that in its form, or what says that it is in another format
abbrev pub ShowsFile : InputShower → Result (Option Form) OtherFormat → List ℕ → List ℕ → Bool → Type 0
ShowsFile shower (Ok form) s out whole = ShowsForm shower form s out whole
ShowsFile shower (Err format) s out whole = (out ≡ shower.units.formats format) × (whole ≡ false)

abbrev pub ShowsInput : InputShower → Bool → List ℕ → List ℕ → Bool → Type 0
ShowsInput shower raw s = ShowsFile shower (input_form raw s) s

-- the exit status for a file whose output has no error, if `whole` is set
abbrev pub status_of : Result (Option Form) OtherFormat → Bool → ℕ
status_of (Ok form) whole = if whole then 0 else 1
status_of (Err format) whole = 2

-- in the plain form, every line of the output for s in this form is printable ASCII; or, for lines, printable ASCII and tabs, and
-- one of them as it is repeated. Those of a capture are bytes
abbrev pub PrintsForm : Option Form → List ℕ → List ℕ → Type 0
PrintsForm None s out = Repeats s out
PrintsForm (Some form) s out = IsBytes s → AreTexts out

abbrev pub PrintsFile : Result (Option Form) OtherFormat → List ℕ → List ℕ → Type 0
PrintsFile (Ok form) s out = PrintsForm form s out
PrintsFile (Err format) s out = AreTexts out

-- a reader had these bytes, and what it has left may follow them: nothing, at its end
abbrev pub MayFollow : Option (List ℕ) → List ℕ → Type 0
MayFollow left_after more = IsAtEnd left_after → more ≡ []

-- the rest of a reader was read, up to its end or to an error that ends the input; and the output for it, after `first`,
-- was written, which is that of every input that begins so
pub record RunsCapture (shower : UnitShower) (form : Form) (first : List ℕ) (left_before left_after held_before held_after : Option (List ℕ)) (whole : Bool) : Type 0 where
  pub text : List ℕ
  pub out : List ℕ
  pub read : Consumes left_before left_after text
  pub shows : (more : List ℕ) → MayFollow left_after more → ShowsCapture shower form (first ++ (text ++ more)) out whole
  pub written : Appends held_before held_after out

-- likewise for an input in this form, which may be lines
pub record RunsFrom (shower : InputShower) (form : Option Form) (first : List ℕ) (left_before left_after held_before held_after : Option (List ℕ)) (whole : Bool) : Type 0 where
  pub text : List ℕ
  pub out : List ℕ
  pub read : Consumes left_before left_after text
  pub shows : (more : List ℕ) → MayFollow left_after more → ShowsForm shower form (first ++ (text ++ more)) out whole
  pub written : Appends held_before held_after out

-- likewise for a whole input. Of a file in another format, the rest may be left
pub record Runs (shower : InputShower) (raw : Bool) (left_before left_after held_before held_after : Option (List ℕ)) (whole : Bool) : Type 0 where
  pub text : List ℕ
  pub out : List ℕ
  pub read : Consumes left_before left_after text
  pub shows : (more : List ℕ) → MayFollow left_after more → ShowsInput shower raw (text ++ more) out whole
  pub written : Appends held_before held_after out

-- a run with this exit status, which the bytes that were read tell
abbrev pub RunsFor : InputShower → Bool → Option (List ℕ) → Option (List ℕ) → Option (List ℕ) → Option (List ℕ) → ℕ → Type 0
RunsFor shower raw left_before left_after held_before held_after status =
    (whole : Bool) × ((run : Runs shower raw left_before left_after held_before held_after whole) × (status ≡ status_of (input_form raw run.text) whole))
