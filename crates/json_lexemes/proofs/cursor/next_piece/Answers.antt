use Rattle.std.proofs.Common.{◌+◌, ◌++◌, ◌∙◌, sym, ap, drop}
use Rattle.json_lexemes.specs.Piece.{piece_bytes}
use Rattle.json_lexemes.specs.Unescape.{unescaped_from}
use Rattle.json_lexemes.proofs.Pieces.{piece_step, nothing_left}
use Rattle.json_lexemes.proofs.Spelled.{rest_whole}
use Rattle.json_lexemes.proofs.TextLengths.{empty_piece}
use Rattle.json_lexemes.proofs.cursor.next_piece.Goals as goal

pub returns-then-piece-gt0-clause-text : goal.returns-then-piece-gt0-clause-text
returns-then-piece-gt0-clause-text c =
    let inside = c.args.inside.now in
    let piece = piece_bytes c.piece_after-piece.result in
    sym c.loop-i.invariant ∙ piece_step inside c.loop-i.i c.loop-i.state c.pending_after-state.result piece c.loop-i-test.true c.piece_after-piece.ensures c.pending_after-state.ensures
    ∙ ap (λ l. piece ++ unescaped_from c.pending_after-state.result l) (sym (rest_whole inside (c.loop-i.i + 1)))

pub loop-i-preserved : goal.loop-i-preserved
loop-i-preserved c =
    let inside = c.args.inside.now in
    let piece = piece_bytes c.piece_after-piece.result in
    ap (λ l. l ++ unescaped_from c.pending_after-state.result (drop (c.loop-i.i + 1) inside)) (sym (empty_piece c.piece_after-piece.result c.if-piece-gt0.false))
    ∙ sym (piece_step inside c.loop-i.i c.loop-i.state c.pending_after-state.result piece c.loop-i-test.true c.piece_after-piece.ensures c.pending_after-state.ensures) ∙ c.loop-i.invariant

pub returns-clause-text : goal.returns-clause-text
returns-clause-text c = sym c.loop-i.invariant ∙ nothing_left c.args.inside.now c.loop-i.i c.loop-i.state c.loop-i-test.false
