-- What documents say of errors.
use Rattle.std.specs.Prelude.{◌≡◌, Bool, true, ◌&&◌, List, [], ◌∷◌, ◌++◌, codes}
use Rattle.json.specs.Json.{Json, boolean}
use Rattle.link_json.specs.Doc.{Field, object_of}

-- the last member of a document says whether it has no error
abbrev pub SaysOk : Json → Bool → Type 0
SaysOk j well = (fields : List Field) × (j ≡ object_of (fields ++ (codes "ok", boolean well) ∷ []))

-- documents say so, each for itself; and whether none has an error
abbrev pub SayOk : List Json → Bool → Type 0
SayOk [] whole = whole ≡ true
SayOk (j ∷ js) whole = (well : Bool) × (rest : Bool) × SaysOk j well × SayOk js rest × (whole ≡ (well && rest))
