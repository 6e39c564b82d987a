use Rattle.json_lexemes.specs.Piece.{piece_bytes}
use Rattle.json_lexemes.proofs.CopiedRuns.{one_copied}
use Rattle.json_lexemes.proofs.copies.push_step.Goals as goal

pub returns-in-Ok-push_piece-clause-ok : goal.returns-in-Ok-push_piece-clause-ok
returns-in-Ok-push_piece-clause-ok c =
    one_copied c.args.inside.now c.push_piece.new.out c.args.out.now (piece_bytes c.piece_after-piece.result) c.args.at c.args.end c.args.pending c.pending_after.result c.requires.inside c.if-at-end.false c.piece_after-piece.ensures c.pending_after.ensures c.in-Ok-push_piece.ensures.ok
