-- Documents as lines, and the members that say where they are from.
use Rattle.std.specs.Prelude.{◌≡◌, ◌≢◌, ◌≤◌, ℕ, List, [], ◌∷◌, ◌++◌, Some, codes}
use Rattle.std.specs.List.{AllByRecursion}
use Rattle.json.specs.Json.{Json, document}
use Rattle.json.specs.Print.{print}
use Rattle.json.specs.Strict.{keys, AreDistinct, HasUniqueKeys, MembersHaveUniqueKeys}
use Rattle.json.specs.Tree.{json_tokens, members_depth, MembersHaveNumbers}
use Rattle.link_json.specs.Doc.{Field, members_of}

-- the text of a document is a line: it reads back as the document and has no LF; no object in the document has a key twice
pub record IsLine (j : Json) : Type 0 where
  pub reads_back : document (print (json_tokens j)) ≡ Some j
  pub unbroken : AllByRecursion (λ b. b ≢ 10) (print (json_tokens j))
  pub unique : HasUniqueKeys j

-- the keys of documents, besides those of the members that say where they are from
abbrev pub document_keys : List (List ℕ)
document_keys =
    codes "len" ∷
    codes "type" ∷
    codes "flags" ∷
    codes "seq" ∷
    codes "pid" ∷
    codes "error" ∷
    codes "link" ∷
    codes "reply" ∷
    codes "list" ∷
    codes "check" ∷
    codes "ok" ∷ []

-- members that may say where documents are from
pub record IsPlace (place : List Field) : Type 0 where
  -- their keys differ from one another, and from the other keys of documents
  pub distinct : AreDistinct (keys (members_of place) ++ document_keys)
  -- no object in their values has a key twice
  pub unique : MembersHaveUniqueKeys (members_of place)
  -- their numbers are numbers of JSON
  pub numbers : MembersHaveNumbers (members_of place)
  -- documents read back if they nest at most 128 arrays and objects, and are one themselves
  pub shallow : members_depth (members_of place) ≤ 127
