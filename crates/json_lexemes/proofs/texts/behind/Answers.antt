use Rattle.std.proofs.Common.{◌≡◌, length, sym, arith}
use Rattle.std.proofs.lemmas.List.{length-take-le}
use Rattle.json_lexemes.specs.Piece.{piece_bytes}
use Rattle.json_lexemes.proofs.Pieces.{front_is}
use Rattle.json_lexemes.proofs.texts.behind.Goals as goal

pub returns-else-eq : goal.returns-else-eq
returns-else-eq c others e =
    let piece = c.args.piece in
    let len : length (piece_bytes piece) ≡ piece.len = length-take-le piece.len piece.bytes (omega (arith, piece.short, piece.room)) in
    front_is c.args.text.now (piece_bytes piece) others c.split_at.result.0.now piece.len c.eq.result (sym len) c.split_at.ensures.front c.eq.ensures c.if-eq.false e
