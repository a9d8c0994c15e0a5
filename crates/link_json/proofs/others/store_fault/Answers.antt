use Rattle.std.proofs.Common.{◌∷◌, [], false, codes}
use Rattle.link_json.specs.Doc.{at_json}
use Rattle.link_json.specs.Value.{text_json}
use Rattle.link_json.proofs.Loops.{on_ok}
use Rattle.link_json.proofs.Objects.{field_then, field_only}
use Rattle.link_json.proofs.OtherParts.{member_document}
use Rattle.link_json.proofs.others.store_fault.Goals as goal

pub returns : goal.returns
returns g c =
    let at = at_json c.args.at in
    let text = text_json c.args.text.now in
    let o = c.begin_object-2.new.self in
    let fields = field_then o c.key-2.new.self c.write_offset.new.doc c.text.new.self (codes "at") at ((codes "text", text) ∷ []) c.in_ok-key-2.ensures c.in_ok-write_offset.ensures
    (field_only c.write_offset.new.doc c.key-3.new.self c.text.new.self (codes "text") text c.in_ok-key-3.ensures c.in_ok-text.ensures) in
    on_ok c.end_document.result
    (member_document c.args.doc.now c.begin_object.new.self c.write_fields.new.doc c.key.new.self o c.text.new.self c.end_object.new.self c.end_document.new.doc (g.P.Place.fields c.args.place.now)
    ((codes "at", at) ∷ (codes "text", text) ∷ []) (codes "error") false c.in_ok-begin_object.ensures c.in_ok-write_fields.ensures c.in_ok-key.ensures c.in_ok-begin_object-2.ensures fields c.in_ok-end_object.ensures)
    c.end_document.ensures
