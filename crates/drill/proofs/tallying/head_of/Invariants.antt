use Rattle.std.proofs.Common.{◌≡◌, ◌≤◌, ◌-◌, ◌++◌, ◌∷◌, ℕ, List, All, length}
use Rattle.drill.specs.Answers.{HeadLine, IsHeadLine, lines_text}
use Rattle.drill.specs.Parts.{LinesLeft}
use Rattle.drill.proofs.tallying.head_of.Given as goal

abbrev pub invariant-loop-head : goal.invariant-loop-head
invariant-loop-head l = record {
  within : l.head.len ≤ length l.bytes;
  lines : (lines : List HeadLine) (behind : List ℕ) → All IsHeadLine lines → l.bytes ≡ lines_text lines ++ 13 ∷ 10 ∷ behind → LinesLeft l.bytes lines behind l.head;
}

abbrev pub decreases-loop-head : goal.decreases-loop-head
decreases-loop-head l = length l.bytes - l.head.len
