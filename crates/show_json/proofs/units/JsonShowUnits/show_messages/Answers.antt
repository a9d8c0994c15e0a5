use Rattle.link_json.specs.Message.{ShowsMessages}
use Rattle.show_json.specs.Place.{file_fields, file_of}
use Rattle.show_json.proofs.Documents.{of_lines}
use Rattle.show_json.proofs.units.JsonShowUnits.show_messages.Goals as goal

pub returns-clause-pieces : goal.returns-clause-pieces
returns-clause-pieces g c =
    of_lines (ShowsMessages (file_fields (file_of c.args.self.now)) c.args.bytes.now) c.write_documents.result c.stopped.result (g.W.Write.contents c.args.writer.now) (g.W.Write.contents c.write_documents.new.writer) c.stopped.ensures c.write_documents.ensures.shown c.write_documents.ensures.memory
