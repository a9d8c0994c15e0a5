use Rattle.std.proofs.Common.{Bool, Err}
use Rattle.std.specs.Io.Buffered.{writer_contents}
use Rattle.show_lines.specs.Pieces.{AddsPieces}
use Rattle.show_lines.proofs.Kept.{from_held}
use Rattle.show_lines.proofs.Pieces.{adds_none, adds_more, adds_kept, if_written}
use Rattle.show_lines.proofs.Steps.{fed_none, fed_line, fed_all}
use Rattle.show_lines.proofs.running.feed.Goals as goal

pub loop-piece-init : goal.loop-piece-init
loop-piece-init g c = let w = writer_contents g.W.Write.contents c.args.writer.now in (fed_none c.args.held.now c.args.chunk.now w, adds_none w)

pub loop-piece-preserved : goal.loop-piece-preserved
loop-piece-preserved g c =
    let w = writer_contents g.W.Write.contents c.args.writer.now in
    let v = writer_contents g.W.Write.contents c.loop-piece.writer in
    let u = writer_contents g.W.Write.contents c.end_line.new.writer in (
      fed_line (from_held g.S.ShowLines.refused g.S.ShowLines.answered c.args.shown.now) c.args.held.now c.loop-piece.held c.end_line.new.held c.args.chunk.now c.loop-piece.rest.now c.in-Some.piece.now c.in-Some.after.now w v u c.loop-piece.whole c.in-Ok.read c.loop-piece.invariant.0 c.in-Some.ensures.1 c.in-Some.ensures.0
          c.in-Ok.ensures.shown c.in-Ok.ensures.forgotten,
      adds_more w v u c.loop-piece.invariant.1 c.in-Ok.ensures.pieces,
    )

pub returns-in-Ok-flush-clause-shown : goal.returns-in-Ok-flush-clause-shown
returns-in-Ok-flush-clause-shown g c =
    fed_all c.args.held.now c.loop-piece.held c.add.new.self c.args.chunk.now c.loop-piece.rest.now (writer_contents g.W.Write.contents c.args.writer.now) (writer_contents g.W.Write.contents c.loop-piece.writer) (writer_contents g.W.Write.contents c.flush.new.self) c.loop-piece.whole
    c.loop-piece.invariant.0 c.in_default.ensures c.in-Ok-add.ensures.kept c.in-Ok-flush.ensures.bytes

pub returns-in-Ok-flush-clause-pieces : goal.returns-in-Ok-flush-clause-pieces
returns-in-Ok-flush-clause-pieces g c = adds_kept (writer_contents g.W.Write.contents c.args.writer.now) (writer_contents g.W.Write.contents c.loop-piece.writer) (writer_contents g.W.Write.contents c.flush.new.self) c.loop-piece.invariant.1 c.in-Ok-flush.ensures.bytes

pub returns-in-Err-clause-pieces : goal.returns-in-Err-clause-pieces
returns-in-Err-clause-pieces g c =
    let piece = g.S.ShowLines.piece c.args.shown.now in
    let w = writer_contents g.W.Write.contents c.args.writer.now in
    let v = writer_contents g.W.Write.contents c.loop-piece.writer in
    let u = writer_contents g.W.Write.contents c.end_line.new.writer in
    if_written {X = Bool} (AddsPieces piece v u) (AddsPieces piece w u) (Err c.in-Err.stop) (adds_more w v u c.loop-piece.invariant.1) c.in-Err.ensures.pieces
