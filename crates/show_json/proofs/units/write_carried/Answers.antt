use Rattle.std.proofs.Common.{Bool, subst}
use Rattle.link_json.specs.Message.{ShowsMessages}
use Rattle.link_json.specs.Other.{place_document}
use Rattle.show_lines.specs.Pieces.{AddsPieces, IfWritten}
use Rattle.show_json.specs.Line.{IsDocument}
use Rattle.show_json.proofs.Documents.{again, of_line, of_lines}
use Rattle.show_json.proofs.units.write_carried.Goals as goal

pub returns-in-Messages-clause-pieces : goal.returns-in-Messages-clause-pieces
returns-in-Messages-clause-pieces g c =
    of_lines (ShowsMessages (g.P.Place.fields c.args.place.now) c.in-Messages.bytes.now) c.write_documents.result c.stopped.result (g.W.Write.contents c.args.writer.now) (g.W.Write.contents c.write_documents.new.writer) c.stopped.ensures c.write_documents.ensures.shown c.write_documents.ensures.memory

pub returns-in-Ok-clause-pieces : goal.returns-in-Ok-clause-pieces
returns-in-Ok-clause-pieces g c =
    let w = g.W.Write.contents c.args.writer.now in
    let v = g.W.Write.contents c.write_place.new.writer in
    subst (λ r. IfWritten r (AddsPieces IsDocument w v)) c.in-Ok.is (of_line c.write_place.result c.stopped-in-Other.result (place_document (g.P.Place.fields c.args.place.now)) w v c.stopped-in-Other.ensures c.write_place.ensures.shown c.write_place.ensures.memory)

pub returns-in-Err-clause-pieces : goal.returns-in-Err-clause-pieces
returns-in-Err-clause-pieces g c =
    let w = g.W.Write.contents c.args.writer.now in
    let v = g.W.Write.contents c.write_place.new.writer in
    again (Unit {0}) Bool (AddsPieces IsDocument w v) c.in-Err.stop (subst (λ r. IfWritten r (AddsPieces IsDocument w v)) c.in-Err.is (of_line c.write_place.result c.stopped-in-Other.result (place_document (g.P.Place.fields c.args.place.now)) w v c.stopped-in-Other.ensures c.write_place.ensures.shown c.write_place.ensures.memory))
