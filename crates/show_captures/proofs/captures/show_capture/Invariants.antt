use Rattle.std.proofs.Common.{◌≡◌, ◌<◌, true, length}
use Rattle.std.specs.Io.Buffered.{writer_contents}
use Rattle.std.specs.Io.KnownBytes.{IsAtEnd}
use Rattle.show_captures.proofs.Inputs.{Went}
use Rattle.show_lines.specs.Pieces.{AddsPieces}
use Rattle.show_captures.proofs.captures.show_capture.Given as goal

abbrev pub invariant-loop : goal.invariant-loop
invariant-loop g l =
    Went (g.S.ShowUnits.units l.shown) l.fn.form l.initial.first l.held.items l.place (g.R.Read.remaining l.initial.reader) (g.R.Read.remaining l.reader) (writer_contents g.W.Write.contents l.fn.writer) (writer_contents g.W.Write.contents l.writer) l.whole
    × (l.is_last ≡ true → IsAtEnd (g.R.Read.remaining l.reader))
    × (0 < length l.chunk)
    × AddsPieces (g.S.ShowLines.piece l.shown) (writer_contents g.W.Write.contents l.fn.writer) (writer_contents g.W.Write.contents l.writer)
