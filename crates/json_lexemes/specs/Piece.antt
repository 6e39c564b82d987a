-- A few bytes of a text.
use Rattle.std.specs.Prelude.{ℕ, List, take}
use Rattle.json_lexemes.specs.declared.piece.Piece.{Piece}

abbrev pub piece_bytes : Piece → List ℕ
piece_bytes piece = take piece.len piece.bytes
