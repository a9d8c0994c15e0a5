-- Members that say where documents are from. Another crate shows that its own are a place with `place`, on literal keys:
-- `place members refl (field_sound (number_sound n) no_fields)` for one member, a number n.
use Rattle.std.proofs.Common.{◌≡◌, true, List, ◌++◌}
use Rattle.json.specs.Strict.{keys}
use Rattle.link_json.specs.Doc.{Field, members_of}
use Rattle.link_json.specs.Line.{IsPlace, document_keys}
use Rattle.link_json.proofs.Keys.{are_distinct, distinct}
use Rattle.link_json.proofs.Sound.{AreSound, fields_facts}

pub place : (members : List Field) → are_distinct (keys (members_of members) ++ document_keys) ≡ true → AreSound 127 (members_of members) → IsPlace members
place members e h =
    let facts = fields_facts h in
    record { distinct = distinct (keys (members_of members) ++ document_keys) e; unique = facts.1; numbers = facts.0; shallow = facts.2 }
