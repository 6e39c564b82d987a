use Rattle.std.proofs.Common.{ap, length, refl, arith}
use Rattle.json_lexemes.proofs.Pieces.{nothing_left}
use Rattle.json_lexemes.proofs.TextLengths.{length_step, unescaped_short}
use Rattle.json_lexemes.proofs.cursor.unescaped_len.Goals as goal

pub overflow_add-count : goal.overflow_add-count
overflow_add-count c =
    let inside = c.args.inside.now in
    let left = length_step inside c.loop-byte.byte-index c.loop-byte.pending _ c.piece_after-piece.result c.loop-byte-test.true c.piece_after-piece.ensures refl in
    let all = unescaped_short inside in
    omega (arith, left, all, c.loop-byte.invariant)

pub loop-byte-preserved : goal.loop-byte-preserved
loop-byte-preserved c =
    let left = length_step c.args.inside.now c.loop-byte.byte-index c.loop-byte.pending c.pending_after-pending.result c.piece_after-piece.result c.loop-byte-test.true c.piece_after-piece.ensures c.pending_after-pending.ensures in
    omega (arith, left, c.loop-byte.invariant)

pub returns : goal.returns
returns c = omega (arith, c.loop-byte.invariant, ap length (nothing_left c.args.inside.now c.loop-byte.byte-index c.loop-byte.pending c.loop-byte-test.false))
