-- No line before the place begins with the mark.
use Rattle.std.proofs.Common.{◌≡◌, ◌+◌, true, drop}
use Rattle.case_text.specs.Piece.{len_before}
use Rattle.case_text.proofs.piece.len_before_mark.Given as goal

abbrev pub invariant-loop-place : goal.invariant-loop-place
invariant-loop-place l = len_before l.mark true l.text ≡ l.place + len_before l.mark l.starts (drop l.place l.text)
