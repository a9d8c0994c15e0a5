use Rattle.std.proofs.Common.{◌≡◌, ◌++◌, ◌∙◌, Some, refl, sym, subst, codes}
use Rattle.std.specs.Io.KnownBytes.{Appends}
use Rattle.link_capture.specs.ErrorText.{bytes_text}
use Rattle.show_json.specs.Line.{fault_line}
use Rattle.show_json.proofs.Failures.{given}
use Rattle.std.proofs.Common.{Bool}
use Rattle.link_json.specs.Other.{fault_document}
use Rattle.show_lines.specs.Pieces.{AddsPieces, IfWritten}
use Rattle.show_lines.proofs.Pieces.{adds_none}
use Rattle.show_json.specs.Line.{IsDocument}
use Rattle.show_json.proofs.Documents.{again, of_line}
use Rattle.show_json.proofs.units.write_short.Goals as goal

pub returns-in-Ok-stopped-clause-shown : goal.returns-in-Ok-stopped-clause-shown
returns-in-Ok-stopped-clause-shown g c =
    let contents = g.W.Write.contents in
    let place = g.P.Place.fields c.args.place.now in
    let said : c.as_bytes.result.now ≡ bytes_text c.args.length ++ codes ", too few for a cooked header" = c.as_bytes.ensures.value ∙ c.in-Ok.ensures.ok in (
      subst (λ t. Appends (contents c.args.writer.now) (contents c.write_fault.new.writer) (fault_line place (Some 0) t)) said
          (given c.write_fault.result c.in-Ok-stopped.field-0 (sym c.in-Ok-stopped.is ∙ c.stopped.ensures) c.write_fault.ensures.shown),
      refl,
    )

pub returns-in_default-clause-pieces : goal.returns-in_default-clause-pieces
returns-in_default-clause-pieces g c = adds_none (g.W.Write.contents c.args.writer.now)

pub returns-in-Ok-stopped-clause-pieces : goal.returns-in-Ok-stopped-clause-pieces
returns-in-Ok-stopped-clause-pieces g c =
    let w = g.W.Write.contents c.args.writer.now in
    let v = g.W.Write.contents c.write_fault.new.writer in
    subst (λ r. IfWritten r (AddsPieces IsDocument w v)) c.in-Ok-stopped.is
    (of_line c.write_fault.result c.stopped.result (fault_document (g.P.Place.fields c.args.place.now) (Some 0) c.as_bytes.result.now) w v c.stopped.ensures c.write_fault.ensures.shown c.write_fault.ensures.memory)

pub returns-clause-pieces : goal.returns-clause-pieces
returns-clause-pieces g c =
    let w = g.W.Write.contents c.args.writer.now in
    let v = g.W.Write.contents c.write_fault.new.writer in
    again (Unit {0}) Bool (AddsPieces IsDocument w v) c.in-Err.stop (subst (λ r. IfWritten r (AddsPieces IsDocument w v)) c.in-Err.is
    (of_line c.write_fault.result c.stopped.result (fault_document (g.P.Place.fields c.args.place.now) (Some 0) c.as_bytes.result.now) w v c.stopped.ensures c.write_fault.ensures.shown c.write_fault.ensures.memory))
