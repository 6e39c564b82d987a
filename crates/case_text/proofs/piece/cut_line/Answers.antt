use Rattle.std.proofs.Common.{◌++◌, ℕ, List, inl, ap, ◌∙◌}
use Rattle.case_text.proofs.Marks.{cut_at}
use Rattle.case_text.proofs.piece.cut_line.Goals as goal

pub returns-in-Some-clause-below : goal.returns-in-Some-clause-below
returns-in-Some-clause-below c =
    inl (c.in-Some.field-0-0.now, cut_at c.args.text.now c.split_at.result.0.now c.split_at.result.1.now _ c.split_at.ensures.front c.split_at.ensures.back ∙ ap (λ (b : List ℕ). c.split_at.result.0.now ++ b) c.in-Some.ensures.cases.0)
