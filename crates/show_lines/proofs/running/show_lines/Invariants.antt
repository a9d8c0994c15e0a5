use Rattle.std.proofs.Common.{◌≡◌, ◌<◌, [], length}
use Rattle.std.specs.Io.Buffered.{writer_contents, writer_buffer}
use Rattle.show_lines.specs.Show.{shower_of}
use Rattle.show_lines.specs.Pieces.{AddsPieces}
use Rattle.show_lines.proofs.Steps.{Went}
use Rattle.show_lines.proofs.running.show_lines.Given as goal

abbrev pub invariant-loop : goal.invariant-loop
invariant-loop g l =
    Went (shower_of g.S.ShowLines.refused g.S.ShowLines.answered l.shown) l.initial.first l.held (g.R.Read.remaining l.initial.reader) (g.R.Read.remaining l.reader) (writer_contents g.W.Write.contents l.fn.writer) (writer_contents g.W.Write.contents l.writer) l.whole
    × (writer_buffer l.writer ≡ []) × (0 < length l.chunk)
    × AddsPieces (g.S.ShowLines.piece l.shown) (writer_contents g.W.Write.contents l.fn.writer) (writer_contents g.W.Write.contents l.writer)
