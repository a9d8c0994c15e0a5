use Rattle.std.proofs.Common.{Bool, List, ℕ, [], Err, sym, subst, arith, true≢false}
use Rattle.std.proofs.lemmas.Bool.{eqb-true}
use Rattle.std.specs.Io.Buffered.{writer_contents}
use Rattle.std.specs.Io.KnownBytes.{Appends, Keeps}
use Rattle.link_capture.specs.Unit.{IsTooShort}
use Rattle.show_captures.specs.Progress.{Passes, WritesUnits}
use Rattle.show_captures.proofs.Inputs.{went_none, went_on, went_all}
use Rattle.show_lines.specs.Pieces.{AddsPieces}
use Rattle.show_lines.proofs.Pieces.{adds_none, adds_more, adds_kept, if_written}
use Rattle.show_captures.proofs.captures.show_capture.Goals as goal

pub loop-init : goal.loop-init
loop-init g c =
    let contents = writer_contents g.W.Write.contents in
    (went_none c.args.first.now c.in-Ok.held.items c.new-place.result (g.R.Read.remaining c.args.reader.now) (contents c.args.writer.now) c.new-place.ensures c.in-Ok.ensures, λ e. absurd (true≢false (sym e)), c.requires, adds_none (contents c.args.writer.now))

pub loop-preserved : goal.loop-preserved
loop-preserved g c =
    let contents = writer_contents g.W.Write.contents in
    let before = c.loop.invariant in
    let written = WritesUnits (g.S.ShowUnits.units c.args.shown.now) c.loop.is_last c.loop.place c.write_units.new.place in
    let named = subst (written c.loop.held.items (contents c.loop.writer) (contents c.write_units.new.writer)) c.in-Ok-More.field-0-is
    (subst (λ s. written s (contents c.loop.writer) (contents c.write_units.new.writer) c.in-Ok-More.field-0) c.deref.ensures.value c.in-Ok-More.ensures.shown) in
    let units = subst (λ l. (out : List ℕ) × Passes (g.S.ShowUnits.units c.args.shown.now) c.loop.is_last c.loop.place c.write_units.new.place c.loop.held.items l out c.in-Ok-More.well × Appends (contents c.loop.writer) (contents c.write_units.new.writer) out) (sym c.forget_front.ensures)
    named.3 in
    let v = contents c.loop.writer in
    let u = contents c.write_units.new.writer in (
      went_on c.args.first.now c.loop.held.items c.forget_front.new.held.items c.read_for_unit.new.held.items c.loop.place c.write_units.new.place (g.R.Read.remaining c.args.reader.now) (g.R.Read.remaining c.loop.reader) (g.R.Read.remaining c.read_for_unit.new.reader)
          (contents c.args.writer.now) (contents c.loop.writer) (contents c.write_units.new.writer) (contents c.read_for_unit.new.writer) c.loop.whole c.in-Ok-More.well c.loop.is_last c.in-Ok-read_for_unit.count before.0 named.0 units c.in-Ok-read_for_unit.ensures.kept
          c.in-Ok-read_for_unit.ensures.read,
      λ e. c.in-Ok-read_for_unit.ensures.read.4 (eqb-true c.in-Ok-read_for_unit.count 0 e),
      omega (arith, before.2, c.in-Ok-read_for_unit.ensures.room),
      adds_kept (contents c.args.writer.now) u (contents c.read_for_unit.new.writer) (adds_more (contents c.args.writer.now) v u before.3 c.in-Ok-More.ensures.pieces) c.in-Ok-read_for_unit.ensures.kept,
    )

pub returns-in-Ok-Done-clause-shown : goal.returns-in-Ok-Done-clause-shown
returns-in-Ok-Done-clause-shown g c =
    let contents = writer_contents g.W.Write.contents in
    let before = c.loop.invariant in
    let written = WritesUnits (g.S.ShowUnits.units c.args.shown.now) c.loop.is_last c.loop.place c.write_units.new.place in
    let named = subst (written c.loop.held.items (contents c.loop.writer) (contents c.write_units.new.writer)) c.in-Ok-Done.field-0-is
    (subst (λ s. written s (contents c.loop.writer) (contents c.write_units.new.writer) c.in-Ok-Done.field-0) c.deref.ensures.value c.in-Ok-Done.ensures.shown) in
    went_all c.args.first.now c.loop.held.items c.loop.place (g.R.Read.remaining c.args.reader.now) (g.R.Read.remaining c.loop.reader) (contents c.args.writer.now) (contents c.loop.writer) (contents c.write_units.new.writer) c.loop.whole c.in-Ok-Done.well c.loop.is_last before.0
    before.1 named

pub returns-in-Err-clause-pieces : goal.returns-in-Err-clause-pieces
returns-in-Err-clause-pieces g c = adds_none (writer_contents g.W.Write.contents c.args.writer.now)

pub returns-in-Ok-Done-clause-pieces : goal.returns-in-Ok-Done-clause-pieces
returns-in-Ok-Done-clause-pieces g c =
    let contents = writer_contents g.W.Write.contents in adds_more (contents c.args.writer.now) (contents c.loop.writer) (contents c.write_units.new.writer) c.loop.invariant.3 c.in-Ok-Done.ensures.pieces

pub returns-in-Err-write_units-clause-pieces : goal.returns-in-Err-write_units-clause-pieces
returns-in-Err-write_units-clause-pieces g c =
    let contents = writer_contents g.W.Write.contents in
    let piece = g.S.ShowLines.piece c.args.shown.now in
    let w = contents c.args.writer.now in
    let v = contents c.loop.writer in
    let u = contents c.write_units.new.writer in if_written {X = Bool} (AddsPieces piece v u) (AddsPieces piece w u) (Err c.in-Err-write_units.stop) (adds_more w v u c.loop.invariant.3) c.in-Err-write_units.ensures.pieces

pub returns-in-Err-read_for_unit-clause-pieces : goal.returns-in-Err-read_for_unit-clause-pieces
returns-in-Err-read_for_unit-clause-pieces g c =
    let contents = writer_contents g.W.Write.contents in
    let piece = g.S.ShowLines.piece c.args.shown.now in
    let w = contents c.args.writer.now in
    let v = contents c.loop.writer in
    let u = contents c.write_units.new.writer in
    let x = contents c.read_for_unit.new.writer in if_written {X = Bool} (Keeps u x) (AddsPieces piece w x) (Err c.in-Err-read_for_unit.stop) (adds_kept w u x (adds_more w v u c.loop.invariant.3 c.in-Ok-More.ensures.pieces)) c.in-Err-read_for_unit.ensures.kept

pub read_for_unit-requires-clause-short : goal.read_for_unit-requires-clause-short
read_for_unit-requires-clause-short g c =
    let contents = writer_contents g.W.Write.contents in
    let written = WritesUnits (g.S.ShowUnits.units c.args.shown.now) c.loop.is_last c.loop.place c.write_units.new.place in
    let named = subst (written c.loop.held.items (contents c.loop.writer) (contents c.write_units.new.writer)) c.in-Ok-More.field-0-is
    (subst (λ s. written s (contents c.loop.writer) (contents c.write_units.new.writer) c.in-Ok-More.field-0) c.deref.ensures.value c.in-Ok-More.ensures.shown) in
    subst (IsTooShort c.write_units.new.place.capture) (sym c.forget_front.ensures) named.2
