use Rattle.std.proofs.Common.{◌≡◌, ◌+◌, ◌-◌, length, drop, sym, ap, ◌∙◌, arith}
use Rattle.std.specs.List.{slice_get}
use Rattle.std.proofs.lemmas.List.{length-take-le}
use Rattle.json_lexemes.specs.Unescape.{unescaped_from, after_byte}
use Rattle.json_lexemes.specs.Piece.{piece_bytes}
use Rattle.json_lexemes.proofs.Pieces.{piece_step, nothing_left, get_front, get_behind, get_taken, get_none}
use Rattle.std.proofs.Common.{get_or, refl}
use Rattle.json_lexemes.proofs.texts.byte_of.Goals as goal

pub returns-then-left-piece : goal.returns-then-left-piece
returns-then-left-piece c =
    let inside = c.args.inside.now in
    let k = c.loop-byte.byte-index in
    let pending = c.loop-byte.pending in
    let next = after_byte pending (get_or inside k 0) in
    let piece = piece_bytes c.piece_after-piece.result in
    let four : length c.piece_after-piece.result.bytes ≡ 4 = c.piece_after-piece.result.room in
    let len : length piece ≡ c.piece_after-piece.result.len = length-take-le c.piece_after-piece.result.len c.piece_after-piece.result.bytes (omega (arith, four, c.piece_after-piece.result.short)) in
    sym (get_taken c.piece_after-piece.result.bytes c.piece_after-piece.result.len c.loop-byte.left c.if-left-piece.true (omega (arith, four, c.if-left-piece.true, c.piece_after-piece.result.short)))
    ∙ sym (get_front piece (unescaped_from next (drop (k + 1) inside)) c.loop-byte.left (omega (arith, len, c.if-left-piece.true)))
    ∙ ap (λ l. slice_get l c.loop-byte.left) (sym (piece_step inside k pending next piece c.loop-byte-test.true c.piece_after-piece.ensures refl))
    ∙ c.loop-byte.invariant

pub loop-byte-preserved : goal.loop-byte-preserved
loop-byte-preserved c =
    let inside = c.args.inside.now in
    let k = c.loop-byte.byte-index in
    let pending = c.loop-byte.pending in
    let next = c.pending_after-pending.result in
    let piece = piece_bytes c.piece_after-piece.result in
    let left = c.loop-byte.left in
    let four : length c.piece_after-piece.result.bytes ≡ 4 = c.piece_after-piece.result.room in
    let len : length piece ≡ c.piece_after-piece.result.len = length-take-le c.piece_after-piece.result.len c.piece_after-piece.result.bytes (omega (arith, four, c.piece_after-piece.result.short)) in
    ap (λ n. slice_get (unescaped_from next (drop (k + 1) inside)) (left - n)) (sym len)
    ∙ sym (get_behind piece (unescaped_from next (drop (k + 1) inside)) left (omega (arith, len, c.if-left-piece.false)))
    ∙ ap (λ l. slice_get l left) (sym (piece_step inside k pending next piece c.loop-byte-test.true c.piece_after-piece.ensures c.pending_after-pending.ensures))
    ∙ c.loop-byte.invariant

pub returns : goal.returns
returns c =
    let inside = c.args.inside.now in
    let k = c.loop-byte.byte-index in
    sym (get_none (unescaped_from c.loop-byte.pending (drop k inside)) c.loop-byte.left (nothing_left inside k c.loop-byte.pending c.loop-byte-test.false)) ∙ c.loop-byte.invariant
