use Rattle.std.proofs.Common.{[], true}
use Rattle.link_json.proofs.Loops.{on_ok}
use Rattle.link_json.proofs.Objects.{document_written, no_field}
use Rattle.link_json.proofs.documents.store_empty.Goals as goal

pub returns : goal.returns
returns g c =
    let place = g.P.Place.fields c.args.place.now in
    on_ok c.end_document.result (document_written c.args.doc.now c.begin_object.new.self c.write_fields.new.doc c.write_fields.new.doc c.end_document.new.doc place [] true c.in_ok-begin_object.ensures c.in_ok-write_fields.ensures
    (no_field c.write_fields.new.doc)) c.end_document.ensures
