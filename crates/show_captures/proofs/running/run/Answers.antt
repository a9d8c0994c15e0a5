use Rattle.std.proofs.Common.{◌≡◌, ◌≤◌, ℕ, Bool, true, Err, inl, inr, List, Option, refl, arith}
use Rattle.std.proofs.KnownBytes.{Appends-trans}
use Rattle.std.specs.Io.Buffered.{writer_inner}
use Rattle.program.specs.UntilEnd.{left_of}
use Rattle.program.specs.Watched.{given, has_failed, passed_on}
use Rattle.show_lines.specs.declared.running.Stop.{Stop}
use Rattle.show_lines.specs.declared.running.Stop.TheVariants.{Memory, Reader, Writer}
use Rattle.show_lines.specs.Pieces.{AddsPieces, IfWritten}
use Rattle.show_captures.specs.End.{EndsBy, StopsEarly}
use Rattle.show_captures.specs.Shower.{shower_of}
use Rattle.show_captures.proofs.KnownForm.{runs_for, fails_to_flush}
use Rattle.show_captures.proofs.running.run.Goals as goal

-- pieces, and then the last words
stops_early : (piece : List ℕ → Type 0) (ends : List ℕ) (breaks : List ℕ → ℕ → Type 0) (stop : Stop) (status : ℕ) (w v u : Option (List ℕ)) (failed : Bool) → IfWritten {X = ℕ} (Err stop) (AddsPieces piece w v) → EndsBy ends breaks stop status v u failed
    → StopsEarly piece ends breaks status w u failed
stops_early piece ends breaks Memory status w v u failed (out, pieces, before) (inl (is, last)) = inl (out, pieces, (ends, inl (refl, is), Appends-trans w v u out ends before last))
stops_early piece ends breaks Memory status w v u failed h (inr fails) = inr fails
stops_early piece ends breaks Reader status w v u failed (out, pieces, before) (inl (text, says, big, last)) = inl (out, pieces, (text, inr says, Appends-trans w v u out text before last))
stops_early piece ends breaks Reader status w v u failed h (inr fails) = inr fails
stops_early piece ends breaks Writer status w v u failed h fails = inr fails

-- a run that stops early has none of the statuses of a whole run
late : (ends : List ℕ) (breaks : List ℕ → ℕ → Type 0) (stop : Stop) (status : ℕ) (v u : Option (List ℕ)) (failed : Bool) → EndsBy ends breaks stop status v u failed → 3 ≤ status
late ends breaks Memory status v u failed (inl (is, last)) = omega (arith, is)
late ends breaks Memory status v u failed (inr (is, fails)) = omega (arith, is)
late ends breaks Reader status v u failed (inl (text, says, big, last)) = big
late ends breaks Reader status v u failed (inr (is, fails)) = omega (arith, is)
late ends breaks Writer status v u failed (is, fails) = omega (arith, is)

pub returns-in-Ok-clause-report : goal.returns-in-Ok-clause-report
returns-in-Ok-clause-report g c =
    let shower = shower_of g.S.ShowLines.refused g.S.ShowLines.answered g.S.ShowUnits.units c.args.shown.now in
    let r = left_of g.R.Read.remaining c.args.reader.now in
    let t = left_of g.R.Read.remaining c.show_input.new.reader in
    let w = given g.W.Write.contents c.args.writer.now in
    let v = given g.W.Write.contents c.show_input.new.writer in
    let u = passed_on g.W.Write.contents c.finish.new.writer in
    runs_for {shower = shower} c.args.raw r t w v u c.in-Ok.status c.finish.result (has_failed (writer_inner c.finish.new.writer)) c.in-Ok.ensures.shown c.finish.ensures.written

pub returns-in-Ok-clause-stopped : goal.returns-in-Ok-clause-stopped
returns-in-Ok-clause-stopped g c big =
    let shower = shower_of g.S.ShowLines.refused g.S.ShowLines.answered g.S.ShowUnits.units c.args.shown.now in
    let r = left_of g.R.Read.remaining c.args.reader.now in
    let t = left_of g.R.Read.remaining c.show_input.new.reader in
    let w = given g.W.Write.contents c.args.writer.now in
    let v = given g.W.Write.contents c.show_input.new.writer in
    let u = passed_on g.W.Write.contents c.finish.new.writer in
    inr (fails_to_flush {shower = shower} c.args.raw r t w v u c.in-Ok.status c.finish.result (has_failed (writer_inner c.finish.new.writer)) c.in-Ok.ensures.shown c.finish.ensures.written big)

pub returns-in-Err-clause-stopped : goal.returns-in-Err-clause-stopped
returns-in-Err-clause-stopped g c big =
    stops_early (g.S.ShowLines.piece c.args.shown.now) (g.S.ShowUnits.ends c.args.shown.now) (g.S.ShowUnits.breaks c.args.shown.now) c.in-Err.stop c.end.result (given g.W.Write.contents c.args.writer.now) (given g.W.Write.contents c.show_input.new.writer) (passed_on g.W.Write.contents c.end.new.writer)
    (has_failed (writer_inner c.end.new.writer)) c.in-Err.ensures.pieces c.end.ensures.said

pub returns-in-Err-clause-report : goal.returns-in-Err-clause-report
returns-in-Err-clause-report g c small =
    let big = late (g.S.ShowUnits.ends c.args.shown.now) (g.S.ShowUnits.breaks c.args.shown.now) c.in-Err.stop c.end.result (given g.W.Write.contents c.show_input.new.writer) (passed_on g.W.Write.contents c.end.new.writer) (has_failed (writer_inner c.end.new.writer)) c.end.ensures.said in
    absurd (omega (arith, small, big))
