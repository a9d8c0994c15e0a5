-- The command line: what `clap` is told of it, and what its words ask for.
use Rattle.std.specs.Prelude.{◌≡◌, ℕ, Bool, true, false, List, [], ◌∷◌, Option, Some, None, Vec, String, codes, map, string_bytes, unwrap_or, if◌then◌else◌}
use Rattle.std.specs.Borrow.{Bor}
use Rattle.std.specs.Str.{bytes_eq}
use Rattle.std.specs.declared.alloc.Global.{Global}
use Rattle.clap.specs.Lexer.{usize_max}
use Rattle.clap.specs.Faults.{fault_of}
use Rattle.clap.specs.Kinds.{Kinds, IsAmong}
use Rattle.clap.specs.Simple.{App, matches_of, new_app, new_rule, on_top}
use Rattle.clap.specs.Walk.{Row, Rule, all_of, first_of, one_of, texts}
use Rattle.clap.specs.declared.builder.action.ArgAction.TheVariants.{Append, SetTrue}
use Rattle.clap.specs.declared.builder.value_parser.ValueParser.TheVariants.{Names}
use Rattle.clap.specs.declared.error.kind.ErrorKind.{ErrorKind}
use Rattle.clap.specs.declared.error.kind.ErrorKind.TheVariants.{DisplayHelp, DisplayVersion, OutOfMemory}
use Rattle.link_show.specs.declared.line_options.LineOptions.{LineOptions}
use Rattle.show_lines.specs.Arguments.{IsAnyWrong, RunsOrClashes}
use Rattle.show_lines.specs.declared.arguments.Form.{Form}
use Rattle.show_lines.specs.declared.arguments.Form.TheVariants as forms
use Rattle.show_lines.specs.declared.arguments.Format.TheVariants.{Plain, Debug}
use Rattle.show_lines.specs.declared.arguments.Output.{Output}
use Rattle.show_lines.specs.declared.arguments.Request.{Request}
use Rattle.show_lines.specs.declared.arguments.Request.TheVariants.{Run, Print}
use Rattle.show_lines.specs.declared.replies.Reply.TheVariants.{Help, Version}

-- ---- what clap is told

-- `--name`, without a value
abbrev pub flag_rule : List ℕ → Rule
flag_rule name = record (new_rule name) { long = Some name; action = Some SetTrue }

-- `--format NAME`, with one of three names; `plain`, if it is not there
abbrev pub IsFormatRule : Rule → Type 0
IsFormatRule rule =
    (names : Bor (List (Bor (List ℕ)))) × (texts names.now ≡ codes "plain" ∷ codes "debug" ∷ codes "json" ∷ [])
    × (rule ≡ record (new_rule (codes "format")) { long = Some (codes "format"); value_names = 1; parser = Some (Names names); defaults = codes "plain" ∷ [] })

-- any number of names of files
abbrev pub files_rule : Rule
files_rule = record (new_rule (codes "FILE")) { action = Some Append; range = Some (record { start_inclusive = 0; end_inclusive = usize_max }) }

-- the program, with a version and these rules
abbrev pub app_with : List Rule → App
app_with rules = on_top (λ top. record top { rules = rules; has_version = true }) (new_app (codes "nlshow"))

abbrev pub IsCommand : App → Type 0
IsCommand app = (format : Rule) × IsFormatRule format × (app ≡ app_with (format ∷ flag_rule (codes "check") ∷ flag_rule (codes "brief") ∷ flag_rule (codes "raw") ∷ files_rule ∷ []))

-- ---- what the words ask for

-- the form with this name
abbrev pub form_of : Option (List ℕ) → Form
form_of None = forms.Text Plain
form_of (Some name) = if bytes_eq name (codes "json") then forms.Json else (if bytes_eq name (codes "debug") then forms.Text Debug else forms.Text Plain)

-- the text that clap found for a flag sets it, or does not
abbrev pub IsFlag : Option (List ℕ) → Bool → Type 0
IsFlag text flag = (text ≡ None → flag ≡ false) × (text ≡ Some (codes "true") → flag ≡ true) × (text ≡ Some (codes "false") → flag ≡ false)

-- the request is the run that clap's rows ask for, or reports that its form cannot have its options
pub record RunsBy (rows : List Row) (request : Request) : Type 0 where
  pub lines : LineOptions
  pub raw : Bool
  pub files : Vec (String Global) Global
  pub check : IsFlag (one_of (codes "check") rows) lines.check
  pub brief : IsFlag (one_of (codes "brief") rows) lines.brief
  pub is_raw : IsFlag (one_of (codes "raw") rows) raw
  pub named : map string_bytes files.items ≡ unwrap_or (all_of (codes "FILE") rows) []
  pub runs : RunsOrClashes (form_of (first_of (codes "format") rows)) lines raw files request

-- what is printed for an error of clap, but for a failed allocation
abbrev pub IsReplyTo : ErrorKind → Request → Type 0
IsReplyTo OutOfMemory request = ⊥
IsReplyTo DisplayHelp request = request ≡ Print Help
IsReplyTo DisplayVersion request = request ≡ Print Version
IsReplyTo kind request = IsAnyWrong request

-- a run, if clap finds no error; otherwise the reply to one that it finds
abbrev pub AsksBy : Kinds → List Row → Request → Type 0
AsksBy [] rows request = RunsBy rows request
AsksBy (kind ∷ kinds) rows request = (found : ErrorKind) × IsAmong found (kind ∷ kinds) × IsReplyTo found request

-- what these words ask for: the name of the program, and the arguments
abbrev pub Asks : List (List ℕ) → Request → Type 0
Asks words request = (app : App) × IsCommand app × AsksBy (fault_of app words) (matches_of app words) request

-- the run with this output, on inputs that are raw or not, of the files with these names
abbrev pub IsRun : Output → Bool → List (List ℕ) → Request → Type 0
IsRun output raw names (Run task) = (task.output ≡ output) × (task.raw ≡ raw) × (map string_bytes task.files.items ≡ names)
IsRun output raw names (Print reply) = ⊥
