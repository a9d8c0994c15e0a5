use Rattle.std.proofs.Common.{length}
use Rattle.std.specs.Io.Buffered.{writer_contents}
use Rattle.show_lines.specs.Show.{shower_of}
use Rattle.show_lines.specs.Pieces.{AddsPieces}
use Rattle.show_lines.proofs.Steps.{Fed}
use Rattle.show_lines.proofs.running.feed.Given as goal

abbrev pub invariant-loop-piece : goal.invariant-loop-piece
invariant-loop-piece g l =
    Fed (shower_of g.S.ShowLines.refused g.S.ShowLines.answered l.shown) l.initial.held l.held l.chunk l.rest (writer_contents g.W.Write.contents l.initial.writer) (writer_contents g.W.Write.contents l.writer) l.whole
    × AddsPieces (g.S.ShowLines.piece l.shown) (writer_contents g.W.Write.contents l.initial.writer) (writer_contents g.W.Write.contents l.writer)

abbrev pub decreases-loop-piece : goal.decreases-loop-piece
decreases-loop-piece g l = length l.rest
