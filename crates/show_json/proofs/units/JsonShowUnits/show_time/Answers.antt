use Rattle.std.proofs.Common.{List, ℕ, refl, sym, subst, OnOk}
use Rattle.std.specs.Io.KnownBytes.{Appends}
use Rattle.link_json.specs.Message.{document_line}
use Rattle.link_json.specs.Other.{place_document}
use Rattle.show_json.specs.Clock.{clock_json}
use Rattle.show_json.specs.Place.{file_of, time_fields}
use Rattle.show_json.specs.Unit.{ShowsTime}
use Rattle.show_json.proofs.Failures.{on_ok}
use Rattle.show_json.proofs.Documents.{of_line}
use Rattle.show_json.proofs.units.JsonShowUnits.show_time.Goals as goal

pub returns-clause-shown : goal.returns-clause-shown
returns-clause-shown g c =
    let json = c.args.self.now in
    let clock = clock_json c.clock_of.result in
    let old = g.W.Write.contents c.args.writer.now in
    let new = g.W.Write.contents c.write_place.new.writer in
    subst (λ r. OnOk r ((out : List ℕ) × ShowsTime json c.args.time out × Appends old new out)) (sym c.stopped.ensures)
    (on_ok c.write_place.result (λ written. (document_line (place_document (time_fields (file_of json) clock)), (clock, c.clock_of.ensures, refl), written)) c.write_place.ensures.shown)

pub returns-clause-pieces : goal.returns-clause-pieces
returns-clause-pieces g c =
    of_line c.write_place.result c.stopped.result (place_document (time_fields (file_of c.args.self.now) (clock_json c.clock_of.result))) (g.W.Write.contents c.args.writer.now) (g.W.Write.contents c.write_place.new.writer) c.stopped.ensures c.write_place.ensures.shown c.write_place.ensures.memory
