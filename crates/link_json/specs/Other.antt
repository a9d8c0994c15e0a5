-- The JSON of what is no message: places, errors, lists, and whether a list is canonical.
use Rattle.std.specs.Prelude.{◌≡◌, ℕ, Bool, true, false, not, List, [], ◌∷◌, Option, Some, None, codes}
use Rattle.std.specs.Option.{is_some}
use Rattle.std.specs.Io.KnownBytes.{Appends}
use Rattle.json.specs.Json.{Json, boolean, string}
use Rattle.link_base.specs.Table.{Canonical, FirstNotCanonical}
use Rattle.netlink_packet_route.specs.declared.family.Family.{Family}
use Rattle.netlink_packet_route.specs.Family.{family_name, table_of}
use Rattle.link_json.specs.Doc.{Field, object_of, array_of, at_json}
use Rattle.link_json.specs.Value.{text_json}
use Rattle.link_json.specs.List.{ShowsList}
use Rattle.link_json.specs.Message.{whole_document, document_line}

-- only where it is from
abbrev pub place_document : List Field → Json
place_document place = whole_document place [] true

-- an error, and its offset, if it has one
abbrev pub fault_document : List Field → Option ℕ → List ℕ → Json
fault_document place at text = whole_document place ((codes "error", object_of ((codes "at", at_json at) ∷ (codes "text", text_json text) ∷ [])) ∷ []) false

-- a list, of these elements
abbrev pub list_document : List Field → Family → List Json → Bool → Json
list_document place family js well = whole_document place ((codes "list", object_of ((codes "family", string (family_name family)) ∷ (codes "attrs", array_of js) ∷ [])) ∷ []) well

-- the document of a list, and whether it has no error
abbrev pub ShowsListDocument : List Field → Family → List ℕ → Json → Bool → Type 0
ShowsListDocument place family bytes j well = (js : List Json) × ShowsList 0 family 0 bytes js well × (j ≡ list_document place family js well)

-- whether a list is canonical: the offset of its first attribute that is not, if there is one
abbrev pub check_document : List Field → Family → Option ℕ → Json
check_document place family at =
    whole_document place ((codes "check", object_of ((codes "family", string (family_name family)) ∷ (codes "canonical", boolean (not (is_some at))) ∷ (codes "at", at_json at) ∷ [])) ∷ []) (not (is_some at))

pub data ShowsCheck (place : List Field) (family : Family) (bytes : List ℕ) (j : Json) (well : Bool) : Type 0 where
  IsCanonical : Canonical (table_of family) bytes → j ≡ check_document place family None → well ≡ true → ShowsCheck place family bytes j well
  IsNot : (at : ℕ) → FirstNotCanonical (table_of family) bytes at → j ≡ check_document place family (Some at) → well ≡ false → ShowsCheck place family bytes j well

-- a document was written as a line, and whether it is well
abbrev pub WritesLine : (Json → Bool → Type 0) → Option (List ℕ) → Option (List ℕ) → Bool → Type 0
WritesLine shows held_before held_after well = (j : Json) × shows j well × Appends held_before held_after (document_line j)
