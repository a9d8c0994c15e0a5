-- What the program does with its inputs.
use Rattle.std.specs.Prelude.{◌≡◌, ◌≢◌, ◌<◌, ◌≤◌, ℕ, ℤ, max, Bool, true, false, not, ◌&&◌, ◌==◌, List, [], ◌∷◌, ◌++◌, Option, Some, None, codes, if◌then◌else◌}
use Rattle.std.specs.Io.KnownBytes.{Appends}
use Rattle.link_show.specs.Quoted.{quoted}
use Rattle.program.specs.Printing.{PrintsOrFails, no_memory_line, read_fault_line}
use Rattle.program.specs.Told.{Told, Tells}
use Rattle.show_captures.specs.ByOptions.{by_options}
use Rattle.show_captures.specs.End.{StopsEarly}
use Rattle.show_captures.specs.Reason.{reason_line}
use Rattle.show_captures.specs.Run.{RunsFor}
use Rattle.show_captures.specs.Shower.{InputShower}
use Rattle.show_json.specs.declared.by_json.Json.{Json as Form}
use Rattle.show_json.specs.Form.{by_json}
use Rattle.show_json.specs.Line.{IsDocument}
use Rattle.show_json.specs.Place.{file_fields, file_of}
use Rattle.show_json.specs.Stop.{EndsWithFault, breaks_json}
use Rattle.show_lines.specs.declared.arguments.Output.{Output}
use Rattle.show_lines.specs.declared.arguments.Output.TheVariants.{Text, Json}

-- a run on an input: to its end or to an error that ends it, or until something fails, and then whole pieces of the output were
-- written, and why the run stops
abbrev pub RunsOrStops : InputShower → (List ℕ → Type 0) → List ℕ → (List ℕ → ℕ → Type 0) → Bool → Option (List ℕ) → Option (List ℕ) → Option (List ℕ) → Option (List ℕ) → Bool → ℕ → Type 0
RunsOrStops shower piece ends breaks raw left_before left_after held_before held_after failed status =
    (status < 3 → RunsFor shower raw left_before left_after held_before held_after status)
    × (3 ≤ status → StopsEarly piece ends breaks status held_before held_after failed)

abbrev pub IsText : Output → Type 0
IsText (Text options) = Unit {0}
IsText Json = ⊥

-- text, by options; or documents, which name the file, if there is one
abbrev pub RunsOn : Output → Option (List ℕ) → Bool → Option (List ℕ) → Option (List ℕ) → Option (List ℕ) → Option (List ℕ) → Bool → ℕ → Type 0
RunsOn (Text options) file raw left_before left_after held_before held_after failed status =
    RunsOrStops (by_options options) (λ _. Unit {0}) no_memory_line (λ text status. (text ≡ read_fault_line) × (status ≡ 5)) raw left_before left_after held_before held_after failed status
RunsOn Json file raw left_before left_after held_before held_after failed status =
    (json : Form) × (file_of json ≡ file) × RunsOrStops (by_json json) IsDocument [] (breaks_json (file_fields file)) raw left_before left_after held_before held_after failed status

-- the line with the name of a file, above the output for it; JSON has none
abbrev pub name_line : Output → List ℕ → List ℕ
name_line (Text options) name = codes "file " ++ (quoted name ++ 10 ∷ [])
name_line Json name = []

-- what is written for a file that cannot be opened
abbrev pub IsUnopened : Output → List ℕ → ℕ → Option (List ℕ) → Option (List ℕ) → Bool → Type 0
IsUnopened (Text options) name status held_before held_after failed = PrintsOrFails held_before held_after (codes "cannot open" ++ 10 ∷ []) 5 status failed
IsUnopened Json name status held_before held_after failed = EndsWithFault (file_fields (Some name)) (codes "cannot open") status held_before held_after failed

-- what an input with this name has: a reader of standard input, if the name is `-`; otherwise a file that was opened
pub data IsSource {I F : Type 0} (of_input : I → Option (List ℕ)) (of_file : F → Option (List ℕ)) (name : List ℕ) (left : Option (List ℕ)) : Type 0 where
  FromInput : (reader : I) → name ≡ codes "-" → left ≡ of_input reader → IsSource of_input of_file name left
  FromFile : (file : F) → name ≢ codes "-" → left ≡ of_file file → IsSource of_input of_file name left

-- the name of an input on standard error: `-` for standard input
abbrev pub told_name : Option (List ℕ) → List ℕ
told_name None = codes "-"
told_name (Some name) = name

-- what standard error is told of an input with this name that a run has read: why a read failed, if it did, by its error number.
-- A run whose writer failed says nothing of reads
abbrev pub read_reason : List ℕ → Option ℤ → ℕ → Bool → List ℕ
read_reason name errno status failed = if status == 5 && not failed then reason_line name errno (codes "read fault") else []

-- a run on the file with this name: its name, if it is text, and then the output for what it has, or that it cannot be opened; or
-- the writer failed. Standard error is told why the file cannot be read or opened, and nothing else
pub data RunsFile (source : List ℕ → Option (List ℕ) → Type 0) (output : Output) (raw : Bool) (name : List ℕ) (held_before held_after : Option (List ℕ)) (failed : Bool) (status : ℕ) (told_before told_after : Told) : Type 0 where
  Opened : (named left_before left_after : Option (List ℕ)) (errno : Option ℤ) → source name left_before → Appends held_before named (name_line output name) → RunsOn output (Some name) raw left_before left_after named held_after failed status
      → Tells told_before told_after (read_reason name errno status failed) → RunsFile source output raw name held_before held_after failed status told_before told_after
  Unopened : (named : Option (List ℕ)) (errno : Option ℤ) → name ≢ codes "-" → Appends held_before named (name_line output name) → IsUnopened output name status named held_after failed
      → Tells told_before told_after (reason_line name errno (codes "cannot open")) → RunsFile source output raw name held_before held_after failed status told_before told_after
  Failed : status ≡ 5 → failed ≡ true → told_after ≡ told_before → RunsFile source output raw name held_before held_after failed status told_before told_after

-- whether the file after one with this exit status is read: not after a failed allocation, or when the writer has failed
abbrev pub goes_on : ℕ → Bool → Bool
goes_on status failed = not (status == 4) && not failed

-- the files with these names were run on, each but the last so that the next is read: what is written for it, and told, follows
-- what was for those before it. `status` is the greatest of their exit statuses, and `more` says whether another one would be read
pub data RunsFiles (source : List ℕ → Option (List ℕ) → Type 0) (output : Output) (raw : Bool) (held_before : Option (List ℕ)) (told_before : Told) : List (List ℕ) → Option (List ℕ) → Bool → ℕ → Bool → Told → Type 0 where
  NoFile : (names : List (List ℕ)) (held_after : Option (List ℕ)) (failed : Bool) (status : ℕ) (more : Bool) (told_after : Told) → names ≡ [] → held_after ≡ held_before → status ≡ 0 → more ≡ true → told_after ≡ told_before
      → RunsFiles source output raw held_before told_before names held_after failed status more told_after
  OneMore : (names : List (List ℕ)) (held_after : Option (List ℕ)) (failed : Bool) (status : ℕ) (more : Bool) (told_after : Told) (front : List (List ℕ)) (name : List ℕ) (between : Option (List ℕ)) (greatest last : ℕ) (told_between : Told)
      → RunsFiles source output raw held_before told_before front between false greatest true told_between → names ≡ front ++ name ∷ [] → RunsFile source output raw name between held_after failed last told_between told_after
      → status ≡ max greatest last → more ≡ goes_on last failed → RunsFiles source output raw held_before told_before names held_after failed status more told_after

-- the first files of a task were run on, and all of them, unless one of them ended the run
pub record RunsTask (source : List ℕ → Option (List ℕ) → Type 0) (output : Output) (raw : Bool) (names : List (List ℕ)) (held_before held_after : Option (List ℕ)) (failed : Bool) (status : ℕ) (told_before told_after : Told) : Type 0 where
  pub done : List (List ℕ)
  pub rest : List (List ℕ)
  pub more : Bool
  pub all : names ≡ done ++ rest
  pub ran : RunsFiles source output raw held_before told_before done held_after failed status more told_after
  pub ended : more ≡ true → rest ≡ []

-- a task without files: standard input, of which standard error is told by the name `-`
pub record RunsInput {I : Type 0} (of_input : I → Option (List ℕ)) (output : Output) (raw : Bool) (held_before held_after : Option (List ℕ)) (failed : Bool) (status : ℕ) (told_before told_after : Told) : Type 0 where
  pub reader : I
  pub left_after : Option (List ℕ)
  pub errno : Option ℤ
  pub ran : RunsOn output None raw (of_input reader) left_after held_before held_after failed status
  pub tells : Tells told_before told_after (read_reason (codes "-") errno status failed)
