use Rattle.std.proofs.Common.{None}
use Rattle.link_json.specs.Other.{fault_document}
use Rattle.show_json.specs.Place.{file_of, line_fields}
use Rattle.show_json.proofs.Documents.{of_line}
use Rattle.show_json.proofs.lines.JsonShowLines.refuse.Goals as goal

pub returns-clause-pieces : goal.returns-clause-pieces
returns-clause-pieces g c =
    of_line c.write_fault.result c.stopped.result (fault_document (line_fields (file_of c.args.self.now) c.args.number) None c.as_bytes.result.now) (g.W.Write.contents c.args.writer.now) (g.W.Write.contents c.write_fault.new.writer) c.stopped.ensures c.write_fault.ensures.shown c.write_fault.ensures.memory
