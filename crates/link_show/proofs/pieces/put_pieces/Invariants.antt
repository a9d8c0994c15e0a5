use Rattle.std.proofs.Common.{drop}
use Rattle.link_show.specs.Pieces.{pieces_text}
use Rattle.link_show.proofs.Written.{WritesFront}
use Rattle.link_show.proofs.pieces.put_pieces.Given as goal

abbrev pub invariant-loop-piece : goal.invariant-loop-piece
invariant-loop-piece g l = WritesFront (g.W.Sink.output l.fn.writer) (g.W.Sink.output l.writer) (pieces_text l.pieces) (pieces_text (drop l.piece-index l.pieces))
