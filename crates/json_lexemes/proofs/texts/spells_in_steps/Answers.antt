use Rattle.std.proofs.Common.{◌+◌, drop, sym, ◌∙◌, refl}
use Rattle.json_lexemes.specs.Unescape.{unescaped, unescaped_from}
use Rattle.json_lexemes.specs.Piece.{piece_bytes}
use Rattle.std.proofs.Common.{◌≡◌}
use Rattle.json_lexemes.proofs.Tables.{false_true}
use Rattle.json_lexemes.proofs.Pieces.{same_step, piece_step, nothing_left, end_same}
use Rattle.json_lexemes.specs.Unescape.{after_byte}
use Rattle.std.proofs.Common.{get_or}
use Rattle.json_lexemes.proofs.texts.spells_in_steps.Goals as goal

pub returns-in-None : goal.returns-in-None
returns-in-None c =
    let inside = c.args.inside.now in
    let k = c.loop-byte.byte-index in
    let pending = c.loop-byte.pending in
    let next = after_byte pending (get_or inside k 0) in
    let left = piece_step inside k pending next (piece_bytes c.piece_after.result) c.loop-byte-test.true c.piece_after.ensures refl in
    (λ t. false_true (unescaped inside ≡ c.args.text.now) t, λ e. absurd (c.in-None.ensures (unescaped_from next (drop (k + 1) inside)) (sym (c.loop-byte.invariant.forth e) ∙ left)))

pub loop-byte-preserved : goal.loop-byte-preserved
loop-byte-preserved c =
    let inside = c.args.inside.now in
    let k = c.loop-byte.byte-index in
    let pending = c.loop-byte.pending in
    let next = c.pending_after-pending.result in
    let piece = piece_bytes c.piece_after.result in
    same_step (unescaped inside) c.args.text.now (unescaped_from pending (drop k inside)) c.loop-byte.rest.now piece (unescaped_from next (drop (k + 1) inside)) c.in-Some.others.now c.loop-byte.invariant
    (piece_step inside k pending next piece c.loop-byte-test.true c.piece_after.ensures c.pending_after-pending.ensures) c.in-Some.ensures

pub returns : goal.returns
returns c =
    let inside = c.args.inside.now in
    let k = c.loop-byte.byte-index in
    end_same (unescaped inside) c.args.text.now (unescaped_from c.loop-byte.pending (drop k inside)) c.loop-byte.rest.now c.is_empty.result c.loop-byte.invariant (nothing_left inside k c.loop-byte.pending c.loop-byte-test.false) c.is_empty.ensures
