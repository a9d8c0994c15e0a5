use Rattle.std.proofs.Common.{◌∷◌, [], false}
use Rattle.link_json.specs.Message.{message_error}
use Rattle.link_json.proofs.Loops.{on_ok}
use Rattle.link_json.proofs.Objects.{document_written}
use Rattle.link_json.proofs.documents.store_error.Goals as goal

pub returns : goal.returns
returns g c =
    let place = g.P.Place.fields c.args.place.now in
    on_ok c.end_document.result (document_written c.args.doc.now c.begin_object.new.self c.write_fields.new.doc c.write_message_error.new.doc c.end_document.new.doc place (message_error c.args.error ∷ []) false c.in_ok-begin_object.ensures c.in_ok-write_fields.ensures
    c.in_ok-write_message_error.ensures) c.end_document.ensures
