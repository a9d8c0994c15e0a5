use Rattle.std.proofs.Common.{◌++◌, refl}
use Rattle.link_json.specs.Message.{message_fields, whole_document}
use Rattle.link_json.proofs.Objects.{document_written, fields_then}
use Rattle.link_json.proofs.documents.store_message.Goals as goal

pub returns : goal.returns
returns g c =
    let place = g.P.Place.fields c.args.place.now in
    let header = message_fields c.args.message.now in
    let old = c.args.doc.now in
    let begun = c.begin_object.new.self in
    let placed = c.write_fields.new.doc in
    let said = c.write_body.new.doc in
    let (body, shown, written) = c.in_ok-well.ensures in
    let well = c.in_ok-well.well in (
      whole_document place (header ++ body) well,
      (body, shown, refl),
      document_written old begun placed said c.end_document.new.doc place (header ++ body) well c.in_ok-begin_object.ensures c.in_ok-write_fields.ensures
          (fields_then placed c.write_message_fields.new.doc said header body c.in_ok-write_message_fields.ensures written) c.in_ok-end_document.ensures,
    )
