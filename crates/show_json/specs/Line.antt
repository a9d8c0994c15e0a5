-- The documents for a line.
use Rattle.std.specs.Prelude.{◌≡◌, ℕ, Bool, List, Option, None}
use Rattle.std.specs.List.{flat_map}
use Rattle.json.specs.Json.{Json}
use Rattle.link_json.specs.Doc.{Field}
use Rattle.link_json.specs.Message.{ShowsMessages, document_line}
use Rattle.link_json.specs.Other.{ShowsListDocument, ShowsCheck, fault_document}
use Rattle.show_lines.specs.declared.asking.Asked.{Asked}
use Rattle.show_lines.specs.declared.asking.Asked.TheVariants.{Messages, Attributes, Verdict}
use Rattle.show_lines.specs.Show.{Answered, Refused}
use Rattle.show_json.specs.declared.by_json.Json.{Json as Form}
use Rattle.show_json.specs.Place.{file_of, line_fields}

-- the document of an error, as a line
abbrev pub fault_line : List Field → Option ℕ → List ℕ → List ℕ
fault_line place at text = document_line (fault_document place at text)

-- a document, as a line
abbrev pub IsDocument : List ℕ → Type 0
IsDocument out = (j : Json) × (out ≡ document_line j)

-- one document, as a line
abbrev pub ShowsOne : (Json → Bool → Type 0) → List ℕ → Bool → Type 0
ShowsOne shows out well = (j : Json) × shows j well × (out ≡ document_line j)

-- the documents for messages, each a line
abbrev pub ShowsDocuments : List Field → List ℕ → List ℕ → Bool → Type 0
ShowsDocuments place bytes out well = (js : List Json) × ShowsMessages place bytes js well × (out ≡ flat_map document_line js)

-- what a command asks for
abbrev pub ShowsAsked : List Field → Asked → List ℕ → List ℕ → Bool → Type 0
ShowsAsked place Messages bytes = ShowsDocuments place bytes
ShowsAsked place (Attributes family) bytes = ShowsOne (ShowsListDocument place family bytes)
ShowsAsked place (Verdict family) bytes = ShowsOne (ShowsCheck place family bytes)

abbrev pub refused_json : Form → Refused
refused_json json n text reason = fault_line (line_fields (file_of json) n) None reason

abbrev pub answered_json : Form → Answered
answered_json json x = ShowsAsked (line_fields (file_of json) x.0)
