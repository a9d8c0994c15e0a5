use Rattle.std.specs.Io.Buffered.{writer_contents}
use Rattle.link_show.proofs.MessageLines.{if_ok}
use Rattle.show_captures.specs.Shower.{shower_of}
use Rattle.show_captures.proofs.KnownForm.{from_capture, from_lines}
use Rattle.show_captures.proofs.running.show_from.Goals as goal

pub returns-in-Some-clause-shown : goal.returns-in-Some-clause-shown
returns-in-Some-clause-shown g c =
    let contents = writer_contents g.W.Write.contents in
    let shower = shower_of g.S.ShowLines.refused g.S.ShowLines.answered g.S.ShowUnits.units c.args.shown.now in
    rw c.in-Some.is (if_ok _ _ c.show_capture.result (from_capture {shower = shower} c.in-Some.form c.args.first.now (g.R.Read.remaining c.args.reader.now) (g.R.Read.remaining c.show_capture.new.reader) (contents c.args.writer.now) (contents c.show_capture.new.writer))
    c.show_capture.ensures.shown)

pub returns-in-None-clause-shown : goal.returns-in-None-clause-shown
returns-in-None-clause-shown g c =
    let contents = writer_contents g.W.Write.contents in
    let shower = shower_of g.S.ShowLines.refused g.S.ShowLines.answered g.S.ShowUnits.units c.args.shown.now in
    rw c.in-None.is (if_ok _ _ c.show_lines.result (from_lines {shower = shower} c.args.first.now (g.R.Read.remaining c.args.reader.now) (g.R.Read.remaining c.show_lines.new.reader) (contents c.args.writer.now) (contents c.show_lines.new.writer)) c.show_lines.ensures.shown)
