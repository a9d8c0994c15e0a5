-- The output for an input, which is documents.
use Rattle.std.specs.Prelude.{◌≡◌, ℕ, Bool, List}
use Rattle.std.specs.List.{flat_map, AllByRecursion}
use Rattle.json.specs.Json.{Json}
use Rattle.link_json.specs.Line.{IsLine}
use Rattle.link_json.specs.Message.{document_line}
use Rattle.link_json.specs.Ok.{SayOk}
use Rattle.show_captures.specs.Shower.{InputShower, shower_of}
use Rattle.show_json.specs.declared.by_json.Json.{Json as Form}
use Rattle.show_json.specs.Line.{refused_json, answered_json}
use Rattle.show_json.specs.Unit.{units_json}

-- JSON documents
abbrev pub by_json : Form → InputShower
by_json = shower_of refused_json answered_json units_json

-- zero or more documents, each a line; each says whether it has no error, and `whole` is set if none has one
pub record AreDocuments (out : List ℕ) (whole : Bool) : Type 0 where
  pub documents : List Json
  pub each : AllByRecursion IsLine documents
  pub oks : SayOk documents whole
  pub joined : out ≡ flat_map document_line documents
