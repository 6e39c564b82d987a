use Rattle.std.proofs.Common.{List, [], map, refl, subst}
use Rattle.std.proofs.lemmas.List.{append-nil}
use Rattle.case_text.specs.Piece.{Part, piece_shown, Cuts, uncut}
use Rattle.case_text.proofs.Marks.{one_piece_more}
use Rattle.case_text.proofs.piece.pieces.Goals as goal

pub loop-piece-preserved : goal.loop-piece-preserved
loop-piece-preserved c = one_piece_more c.args.mark.now c.args.text.now c.loop-piece.rest.now c.in-Some.behind.now c.loop-piece.all.items c.push.new.self.items c.in-Some.piece c.in_ok-push.ensures.items c.loop-piece.invariant c.in-Some.ensures.first

pub returns : goal.returns
returns c = subst (λ (all : List Part). Cuts c.args.mark.now c.args.text.now all) (append-nil (map piece_shown c.loop-piece.all.items)) (c.loop-piece.invariant [] (uncut c.loop-piece.rest.now (c.in_default.ensures.none refl)))
