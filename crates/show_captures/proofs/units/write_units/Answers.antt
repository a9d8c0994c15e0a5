use Rattle.std.proofs.Common.{◌≡◌, ◌≢◌, ◌<◌, ◌≤◌, ◌&&◌, ℕ, ◌++◌, Bool, List, [], Err, Some, false, refl, sym, subst, arith, length, drop, length-drop}
use Rattle.link_capture.specs.Unit.{Follows, IsUnit, IsError}
use Rattle.std.proofs.KnownBytes.{Appends-nil, Appends-trans}
use Rattle.std.proofs.lemmas.List.{drop-drop}
use Rattle.std.specs.Io.KnownBytes.{Appends}
use Rattle.link_capture.specs.Meaning.{meaning_of}
use Rattle.link_show.proofs.MessageLines.{if_ok}
use Rattle.show_captures.specs.declared.units.Turn.TheVariants.{Done}
use Rattle.show_captures.specs.Event.{end_line}
use Rattle.show_captures.specs.Progress.{Passes, WritesUnits}
use Rattle.show_captures.proofs.Passing.{passes_none, passes_one, passes_both, finishes_wrong}
use Rattle.show_lines.specs.Pieces.{AddsPieces}
use Rattle.show_lines.proofs.Pieces.{adds_none, adds_more, if_written}
use Rattle.link_capture.specs.Meaning.{State}
use Rattle.link_capture.specs.Unit.{IsTooShort}
use Rattle.show_captures.specs.declared.place.Place.{Place}
use Rattle.show_captures.proofs.units.write_units.Goals as goal

pub loop-error-init : goal.loop-error-init
loop-error-init g c = let w = g.W.Write.contents c.args.writer.now in (omega arith, ([], passes_none c.args.is_last c.args.place.now c.args.bytes.now, Appends-nil w), adds_none w)

pub returns-in-Wrong-clause-shown : goal.returns-in-Wrong-clause-shown
returns-in-Wrong-clause-shown g c =
    let w = g.W.Write.contents c.args.writer.now in
    let v = g.W.Write.contents c.loop-error.writer in
    let u = g.W.Write.contents c.write_error.new.writer in
    let before = c.loop-error.invariant in
    let line = end_line (g.S.ShowUnits.units c.args.shown.now) (Some (c.loop-error.place.at, c.in-Wrong.error)) in
    if_ok (λ turn. (turn ≡ Done false) × Appends v u line) (WritesUnits (g.S.ShowUnits.units c.args.shown.now) c.args.is_last c.args.place.now _ c.args.bytes.now w u) c.write_error.result
    (λ turn h. subst (WritesUnits (g.S.ShowUnits.units c.args.shown.now) c.args.is_last c.args.place.now _ c.args.bytes.now w u) (sym h.0) (
      before.1.0 ++ line,
      finishes_wrong c.args.is_last c.args.place.now c.loop-error.place c.args.bytes.now (drop c.loop-error.used c.args.bytes.now) before.1.0 c.in-Wrong.error c.loop-error.well before.1.1
          (subst (λ l. (more : List ℕ) → Follows c.args.is_last more → ((l ++ more) ≢ []) × IsError c.loop-error.place.capture (l ++ more) c.in-Wrong.error) c.rest_of.ensures c.in-Wrong.ensures.1),
      Appends-trans w v u before.1.0 line before.1.2 h.1,
    )) c.write_error.ensures.shown

pub returns-in-Wrong-clause-pieces : goal.returns-in-Wrong-clause-pieces
returns-in-Wrong-clause-pieces g c =
    let piece = g.S.ShowLines.piece c.args.shown.now in
    let w = g.W.Write.contents c.args.writer.now in
    let v = g.W.Write.contents c.loop-error.writer in
    let u = g.W.Write.contents c.write_error.new.writer in if_written (AddsPieces piece v u) (AddsPieces piece w u) c.write_error.result (adds_more w v u c.loop-error.invariant.2) c.write_error.ensures.pieces

pub returns-in-Err-clause-pieces : goal.returns-in-Err-clause-pieces
returns-in-Err-clause-pieces g c =
    let piece = g.S.ShowLines.piece c.args.shown.now in
    let w = g.W.Write.contents c.args.writer.now in
    let v = g.W.Write.contents c.loop-error.writer in
    let u = g.W.Write.contents c.write_unit.new.writer in if_written {X = Bool} (AddsPieces piece v u) (AddsPieces piece w u) (Err c.in-Err.stop) (adds_more w v u c.loop-error.invariant.2) c.in-Err.ensures.pieces

pub loop-error-preserved : goal.loop-error-preserved
loop-error-preserved g c =
    let w = g.W.Write.contents c.args.writer.now in
    let v = g.W.Write.contents c.loop-error.writer in
    let u = g.W.Write.contents c.write_unit.new.writer in
    let before = c.loop-error.invariant in
    let unit = subst (λ l. (0 < c.in-Unit.size) × (c.in-Unit.size ≤ length l) × ((more : List ℕ) → Follows c.args.is_last more → IsUnit c.loop-error.place.capture (l ++ more) (meaning_of c.in-Unit.event) c.in-Unit.size c.next.new.self)) c.rest_of.ensures c.in-Unit.ensures in
    let shown = c.in-Ok.ensures.shown in
    let bytes = c.args.bytes.now in
    let used = c.loop-error.used in
    let size = c.in-Unit.size in
    let one = passes_one {shower = g.S.ShowUnits.units c.args.shown.now} c.args.is_last c.loop-error.place (record { capture = c.next.new.self; at = c.loop-error.place.at; packets = c.loop-error.place.packets }) c.write_unit.new.place (drop used bytes) shown.0.0 size
    (meaning_of c.in-Unit.event) c.in-Ok.read (refl, refl) unit.1 unit.2 shown.1 shown.0.1 in (
      omega (arith, unit.1, before.0, length-drop used bytes),
      (
        before.1.0 ++ shown.0.0,
        subst (λ l. Passes (g.S.ShowUnits.units c.args.shown.now) c.args.is_last c.args.place.now c.write_unit.new.place bytes l (before.1.0 ++ shown.0.0) (c.loop-error.well && c.in-Ok.read)) (drop-drop size used bytes)
            (passes_both c.args.is_last c.args.place.now c.loop-error.place c.write_unit.new.place bytes (drop used bytes) (drop size (drop used bytes)) before.1.0 shown.0.0 c.loop-error.well c.in-Ok.read before.1.1 one),
        Appends-trans w v u before.1.0 shown.0.0 before.1.2 shown.0.2,
      ),
      adds_more w v u before.2 c.in-Ok.ensures.pieces,
    )

pub returns-in-More-clause-shown : goal.returns-in-More-clause-shown
returns-in-More-clause-shown g c =
    let before = c.loop-error.invariant in
    let place : Place = c.loop-error.place in
    let left = drop c.loop-error.used c.args.bytes.now in
    let at : State → Place = λ state. record { capture = state; at = place.at; packets = place.packets } in
    let short : IsTooShort place.capture left = subst (IsTooShort place.capture) c.rest_of.ensures c.in-More.ensures.2 in
    let same : place.capture ≡ c.next.new.self = sym c.in-More.ensures.0 in (
      c.in-More.ensures.1,
      before.0,
      subst (λ state. IsTooShort state left) same short,
      (before.1.0, subst (λ state. Passes (g.S.ShowUnits.units c.args.shown.now) c.args.is_last c.args.place.now (at state) c.args.bytes.now left before.1.0 c.loop-error.well) same before.1.1, before.1.2),
    )
