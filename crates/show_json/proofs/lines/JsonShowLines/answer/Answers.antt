use Rattle.link_json.specs.Message.{ShowsMessages}
use Rattle.link_json.specs.Other.{ShowsListDocument, ShowsCheck}
use Rattle.show_json.specs.Place.{file_of, line_fields}
use Rattle.show_json.proofs.Documents.{of_lines, of_one}
use Rattle.show_json.proofs.lines.JsonShowLines.answer.Goals as goal

pub returns-in-Messages-clause-pieces : goal.returns-in-Messages-clause-pieces
returns-in-Messages-clause-pieces g c =
    of_lines (ShowsMessages (line_fields (file_of c.args.self.now) c.args.number) c.args.bytes.now) c.write_documents.result c.stopped.result (g.W.Write.contents c.args.writer.now) (g.W.Write.contents c.write_documents.new.writer) c.stopped.ensures c.write_documents.ensures.shown c.write_documents.ensures.memory

pub returns-in-Attributes-clause-pieces : goal.returns-in-Attributes-clause-pieces
returns-in-Attributes-clause-pieces g c =
    of_one (ShowsListDocument (line_fields (file_of c.args.self.now) c.args.number) c.in-Attributes.family c.args.bytes.now) c.write_list_document.result c.stopped-in-Attributes.result (g.W.Write.contents c.args.writer.now) (g.W.Write.contents c.write_list_document.new.writer) c.stopped-in-Attributes.ensures c.write_list_document.ensures.shown
    c.write_list_document.ensures.memory

pub returns-in-Verdict-clause-pieces : goal.returns-in-Verdict-clause-pieces
returns-in-Verdict-clause-pieces g c =
    of_one (ShowsCheck (line_fields (file_of c.args.self.now) c.args.number) c.in-Verdict.family c.args.bytes.now) c.write_check.result c.stopped-in-Verdict.result (g.W.Write.contents c.args.writer.now) (g.W.Write.contents c.write_check.new.writer) c.stopped-in-Verdict.ensures c.write_check.ensures.shown c.write_check.ensures.memory
