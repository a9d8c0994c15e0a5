-- Texts in pieces.
use Rattle.std.specs.Prelude.{ℕ, List, [], ◌∷◌, ◌++◌}
use Rattle.std.specs.Fmt.{decimal, signed_decimal}
use Rattle.link_show.specs.declared.pieces.Piece.{Piece}
use Rattle.link_show.specs.declared.pieces.Piece.TheVariants as pieces
use Rattle.link_show.specs.Text.{hex}

abbrev pub piece_text : Piece → List ℕ
piece_text (pieces.Text text) = text.now
piece_text (pieces.Number n) = decimal n
piece_text (pieces.Signed z) = signed_decimal z
piece_text (pieces.Hex n) = hex n

-- the texts of pieces, in order
abbrev pub pieces_text : List Piece → List ℕ
pieces_text [] = []
pieces_text (p ∷ []) = piece_text p
pieces_text (p ∷ q ∷ rest) = piece_text p ++ pieces_text (q ∷ rest)
