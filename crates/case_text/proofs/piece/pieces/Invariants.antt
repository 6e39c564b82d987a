-- The pieces so far and those of the rest are the pieces of the text.
use Rattle.std.proofs.Common.{List, ◌++◌, map, length}
use Rattle.case_text.specs.Piece.{Part, piece_shown, Cuts}
use Rattle.case_text.proofs.piece.pieces.Given as goal

abbrev pub invariant-loop-piece : goal.invariant-loop-piece
invariant-loop-piece l = (later : List Part) → Cuts l.mark l.rest later → Cuts l.mark l.text (map piece_shown l.all.items ++ later)

abbrev pub decreases-loop-piece : goal.decreases-loop-piece
decreases-loop-piece l = length l.rest
