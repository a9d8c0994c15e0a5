-- What the arguments give: a run, or a text in place of a run.
use Rattle.std.specs.Prelude.{◌≡◌, ℕ, Bool, true, ◌||◌, List, ◌∷◌, ◌++◌, Option, Some, None, Vec, String, codes, string_bytes, if◌then◌else◌}
use Rattle.std.specs.declared.alloc.Global.{Global}
use Rattle.show_lines.specs.Show.{IsUnbroken}
use Rattle.show_lines.specs.declared.arguments.Form.{Form}
use Rattle.show_lines.specs.declared.arguments.Form.TheVariants as forms
use Rattle.show_lines.specs.declared.arguments.Format.TheVariants.{Plain, Debug}
use Rattle.show_lines.specs.declared.arguments.Output.{Output}
use Rattle.show_lines.specs.declared.arguments.Output.TheVariants.{Text, Json}
use Rattle.link_show.specs.declared.line_options.LineOptions.{LineOptions}
use Rattle.show_lines.specs.declared.arguments.Task.{Task}
use Rattle.show_lines.specs.declared.arguments.Request.{Request}
use Rattle.show_lines.specs.declared.arguments.Request.TheVariants.{Run, Print}
use Rattle.show_lines.specs.declared.replies.Reply.{Reply}
use Rattle.show_lines.specs.declared.replies.Reply.TheVariants.{Help, Version, Wrong}
use Rattle.show_lines.specs.declared.replies.TheConstants.{HELP, USAGE, VERSION}

-- how the program is used
abbrev pub usage_line : List ℕ
usage_line = codes "usage: nlshow [--format plain|debug|json] [--check] [--brief] [--raw] [FILE].. | --help | --version"

abbrev pub reply_text : Reply → List ℕ
reply_text Help = HELP.now
reply_text Version = VERSION.now
reply_text (Wrong text) = string_bytes text

abbrev pub reply_status : Reply → ℕ
reply_status Help = 0
reply_status Version = 0
reply_status (Wrong text) = 2

-- the reply reports what is wrong with the arguments, on standard error
abbrev pub IsError : Reply → Type 0
IsError (Wrong text) = Unit {0}
IsError _ = ⊥

-- the request prints the line, LF and the usage line
abbrev pub IsWrong : List ℕ → Request → Type 0
IsWrong line (Print (Wrong text)) = string_bytes text ≡ line ++ (10 ∷ USAGE.now)
IsWrong line _ = ⊥

-- the request prints some line and the usage line
abbrev pub IsAnyWrong : Request → Type 0
IsAnyWrong request = (line : List ℕ) × IsUnbroken line × IsWrong line request

-- the text for the first of these options that is set
abbrev pub clash_among : LineOptions → List ℕ → List ℕ → Option (List ℕ)
clash_among lines check brief = if lines.check then Some check else (if lines.brief then Some brief else None)

-- why a form cannot have these options, if it cannot
abbrev pub clash : Form → LineOptions → Option (List ℕ)
clash (forms.Text Plain) lines = None
clash (forms.Text Debug) lines = clash_among lines
    (codes "error: the argument '--format debug' cannot be used with '--check'")
    (codes "error: the argument '--format debug' cannot be used with '--brief'")
clash forms.Json lines = clash_among lines
    (codes "error: the argument '--format json' cannot be used with '--check'")
    (codes "error: the argument '--format json' cannot be used with '--brief'")

-- what a run in this form writes
abbrev pub output_of : Form → LineOptions → Output
output_of (forms.Text format) lines = Text (record { format = format; lines = lines })
output_of forms.Json lines = Json

-- the request is this run, unless there is an error
abbrev pub RunsUnless : Option (List ℕ) → Task → Request → Type 0
RunsUnless None task request = request ≡ Run task
RunsUnless (Some line) task request = IsWrong line request

-- the request is a run in this form, with these options, on inputs that are raw or not, of these files; or the form cannot
-- have the options
abbrev pub RunsOrClashes : Form → LineOptions → Bool → Vec (String Global) Global → Request → Type 0
RunsOrClashes form lines raw files = RunsUnless (clash form lines) (record { output = output_of form lines; raw = raw; files = files })

-- in the debug form, lists are not checked, and nothing is left out
abbrev pub ChecksPlain : Output → Type 0
ChecksPlain (Text options) = ¬ ((options.format ≡ Debug) × ((options.lines.check || options.lines.brief) ≡ true))
ChecksPlain Json = Unit {0}

-- a run that has no `--check` in the debug form, the help text, the version, or what is wrong
abbrev pub IsRequest : Request → Type 0
IsRequest (Run task) = ChecksPlain task.output
IsRequest (Print (Wrong text)) = IsAnyWrong (Print (Wrong text))
IsRequest (Print _) = Unit {0}
