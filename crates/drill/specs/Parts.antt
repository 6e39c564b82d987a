-- What the parts of the counting come to.
use Rattle.std.specs.Prelude.{◌≡◌, ◌+◌, ℕ, List, ◌∷◌, ◌++◌, length, map, drop, All}
use Rattle.drill.specs.Answers.{Answer, HeadLine, IsHeadLine, MayBeCounted, counted_all, lines_text, status_of, texts_of, told}
use Rattle.drill.specs.declared.tallying.Head.{Head}
use Rattle.drill.specs.declared.tallying.Tally.{Tally}

-- of a head of these lines, which is counted up to a place, these are left
pub record LinesLeft (bytes : List ℕ) (lines : List HeadLine) (behind : List ℕ) (head : Head) : Type 0 where
  pub left : List HeadLine
  pub each : All IsHeadLine left
  pub rest : drop head.len bytes ≡ lines_text left ++ 13 ∷ 10 ∷ behind
  pub same_len : head.len + length (lines_text left) ≡ length (lines_text lines)
  pub same_told : told head.content left ≡ told 0 lines

-- of these answers, which are counted up to a place, these are left
pub record AnswersLeft (bytes : List ℕ) (answers : List Answer) (at : ℕ) (tally : Tally) : Type 0 where
  pub left : List Answer
  pub each : All MayBeCounted left
  pub rest : drop at bytes ≡ texts_of left
  pub same : counted_all tally (map status_of left) ≡ counted_all (record { ok = 0; no_content = 0; conflict = 0; other = 0 }) (map status_of answers)
