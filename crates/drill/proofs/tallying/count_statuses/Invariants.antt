use Rattle.std.proofs.Common.{◌≡◌, ◌≤◌, ◌-◌, List, All, length}
use Rattle.drill.specs.Answers.{Answer, MayBeCounted, texts_of}
use Rattle.drill.specs.Parts.{AnswersLeft}
use Rattle.drill.proofs.tallying.count_statuses.Given as goal

abbrev pub invariant-loop-at : goal.invariant-loop-at
invariant-loop-at l = record {
  within : l.at ≤ length l.bytes;
  ok : l.tally.ok ≤ l.at;
  no_content : l.tally.no_content ≤ l.at;
  conflict : l.tally.conflict ≤ l.at;
  other : l.tally.other ≤ l.at;
  answers : (answers : List Answer) → All MayBeCounted answers → l.bytes ≡ texts_of answers → AnswersLeft l.bytes answers l.at l.tally;
}

abbrev pub decreases-loop-at : goal.decreases-loop-at
decreases-loop-at l = length l.bytes - l.at
