-- Texts in pieces.
use Rattle.std.proofs.Common.{◌≡◌, [], ◌∷◌, ◌++◌, List, refl, sym}
use Rattle.std.proofs.lemmas.List.{append-nil, drop_more}
use Rattle.link_show.specs.declared.pieces.Piece.{Piece}
use Rattle.link_show.proofs.Written.{none_written, one_written}
use Rattle.link_show.specs.Pieces.{piece_text, pieces_text}

-- a piece before others
pub pieces_more : (p : Piece) (rest : List Piece) → pieces_text (p ∷ rest) ≡ piece_text p ++ pieces_text rest
pieces_more p [] = sym (append-nil (piece_text p))
pieces_more p (q ∷ rest) = refl

pub ruleset piece_steps = (none_written, one_written, drop_more, pieces_more)
