use Rattle.std.proofs.Common.{◌<◌, Bool, length, arith, Err, subst}
use Rattle.std.specs.Io.Buffered.{writer_contents}
use Rattle.show_lines.specs.Show.{shower_of}
use Rattle.show_lines.specs.Pieces.{AddsPieces}
use Rattle.show_lines.specs.Progress.{WritesRest, WritesPiece}
use Rattle.show_lines.specs.Run.{Runs}
use Rattle.link_show.proofs.MessageLines.{if_ok}
use Rattle.show_lines.proofs.Kept.{from_held}
use Rattle.show_lines.proofs.Pieces.{adds_more, if_written}
use Rattle.show_lines.proofs.Steps.{went_none, went_on, went_all, read_end}
use Rattle.show_lines.proofs.running.show_lines.Goals as goal

pub loop-init : goal.loop-init
loop-init g c =
    let contents = writer_contents g.W.Write.contents in (
      went_none c.args.first.now c.feed.new.held (g.R.Read.remaining c.args.reader.now) (contents c.args.writer.now) (contents c.feed.new.writer) c.in-Ok.read
          (subst (λ h. WritesPiece (shower_of g.S.ShowLines.refused g.S.ShowLines.answered c.args.shown.now) h c.feed.new.held c.args.first.now (contents c.args.writer.now) (contents c.feed.new.writer) c.in-Ok.read) c.new-held.ensures c.in-Ok.ensures.shown),
      c.in-Ok.ensures.flushed,
      c.requires,
      c.in-Ok.ensures.pieces,
    )

pub loop-preserved : goal.loop-preserved
loop-preserved g c =
    let contents = writer_contents g.W.Write.contents in (
      went_on c.args.first.now c.loop.held c.feed-in-loop.new.held c.split_at.result.0.now (g.R.Read.remaining c.args.reader.now) (g.R.Read.remaining c.loop.reader) (g.R.Read.remaining c.read_more.new.reader) (contents c.args.writer.now) (contents c.loop.writer)
          (contents c.feed-in-loop.new.writer) c.loop.whole c.in-Ok-feed.read c.loop.invariant.0 (rw c.split_at.ensures.front c.in-Ok-read_more.ensures.bytes.0) c.in-Ok-feed.ensures.shown,
      c.in-Ok-feed.ensures.flushed,
      omega (arith, c.loop.invariant.2, c.read_more.auto.chunk),
      adds_more (contents c.args.writer.now) (contents c.loop.writer) (contents c.feed-in-loop.new.writer) c.loop.invariant.3 c.in-Ok-feed.ensures.pieces,
    )

pub returns-in-Err-feed-clause-pieces : goal.returns-in-Err-feed-clause-pieces
returns-in-Err-feed-clause-pieces g c =
    let piece = g.S.ShowLines.piece c.args.shown.now in
    let w = writer_contents g.W.Write.contents c.args.writer.now in
    let v = writer_contents g.W.Write.contents c.loop.writer in
    let u = writer_contents g.W.Write.contents c.feed-in-loop.new.writer in
    if_written {X = Bool} (AddsPieces piece v u) (AddsPieces piece w u) (Err c.in-Err-feed.stop) (adds_more w v u c.loop.invariant.3) c.in-Err-feed.ensures.pieces

pub returns-in-Ok-eq0-clause-shown : goal.returns-in-Ok-eq0-clause-shown
returns-in-Ok-eq0-clause-shown g c =
    let shows = shower_of g.S.ShowLines.refused g.S.ShowLines.answered c.args.shown.now in
    let r = g.R.Read.remaining c.args.reader.now in
    let s = g.R.Read.remaining c.loop.reader in
    let t = g.R.Read.remaining c.read_more.new.reader in
    let w = writer_contents g.W.Write.contents c.args.writer.now in
    let v = writer_contents g.W.Write.contents c.loop.writer in
    let u = writer_contents g.W.Write.contents c.end_text.new.writer in
    let some : 0 < length c.read_more.new.chunk = omega (arith, c.read_more.auto.chunk, c.loop.invariant.2) in
    let end = read_end s t c.in-Ok-eq0.field-0 c.read_more.new.chunk c.in-Ok-eq0.field-0-test c.in-Ok-eq0.ensures.bytes some in
    if_ok (WritesRest shows c.loop.held c.loop.whole v u) (Runs shows c.args.first.now r t w u) c.end_text.result (λ all h. went_all (from_held g.S.ShowLines.refused g.S.ShowLines.answered c.args.shown.now) c.args.first.now c.loop.held r s t w v u c.loop.whole all c.loop.invariant.0 end.0 end.1 h) c.end_text.ensures.shown

pub returns-in-Ok-eq0-clause-pieces : goal.returns-in-Ok-eq0-clause-pieces
returns-in-Ok-eq0-clause-pieces g c =
    let piece = g.S.ShowLines.piece c.args.shown.now in
    let w = writer_contents g.W.Write.contents c.args.writer.now in
    let v = writer_contents g.W.Write.contents c.loop.writer in
    let u = writer_contents g.W.Write.contents c.end_text.new.writer in
    if_written (AddsPieces piece v u) (AddsPieces piece w u) c.end_text.result (adds_more w v u c.loop.invariant.3) c.end_text.ensures.pieces
