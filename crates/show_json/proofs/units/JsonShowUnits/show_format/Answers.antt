use Rattle.std.proofs.Common.{Some, None}
use Rattle.link_json.specs.Other.{fault_document}
use Rattle.show_lines.proofs.Pieces.{adds_none}
use Rattle.show_json.specs.Place.{file_fields, file_of}
use Rattle.show_json.proofs.Documents.{of_line}
use Rattle.show_json.proofs.units.JsonShowUnits.show_format.Goals as goal

pub returns-in_default-clause-pieces : goal.returns-in_default-clause-pieces
returns-in_default-clause-pieces g c = adds_none (g.W.Write.contents c.args.writer.now)

pub returns-clause-pieces : goal.returns-clause-pieces
returns-clause-pieces g c =
    of_line c.write_fault.result c.stopped.result (fault_document (file_fields (file_of c.args.self.now)) None c.as_bytes.result.now) (g.W.Write.contents c.args.writer.now) (g.W.Write.contents c.write_fault.new.writer) c.stopped.ensures c.write_fault.ensures.shown c.write_fault.ensures.memory
