use Rattle.std.proofs.Common.{◌≡◌, length}
use Rattle.std.specs.Io.Buffered.{writer_contents}
use Rattle.std.specs.Io.KnownBytes.{Consumes, Keeps}
use Rattle.show_captures.proofs.Begun.{MayBegin}
use Rattle.show_captures.proofs.first.read_first.Given as goal

abbrev pub invariant-loop : goal.invariant-loop
invariant-loop g l =
    Consumes (g.R.Read.remaining l.initial.reader) (g.R.Read.remaining l.reader) l.bytes.items × Keeps (writer_contents g.W.Write.contents l.fn.writer) (writer_contents g.W.Write.contents l.writer) × (length l.chunk ≡ length l.initial.chunk) × MayBegin l.bytes.items
