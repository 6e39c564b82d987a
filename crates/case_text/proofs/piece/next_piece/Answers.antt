use Rattle.std.proofs.Common.{◌≡◌, ◌∙◌, List, ℕ, true, false, sym, subst, drop, nat_eq}
use Rattle.std.specs.List.{starts_with}
use Rattle.case_text.proofs.Marks.{unmarked, cut_at, first_piece}
use Rattle.case_text.proofs.piece.next_piece.Goals as goal

pub returns-then-not-starts_with-clause-none : goal.returns-then-not-starts_with-clause-none
returns-then-not-starts_with-clause-none c = λ same.
    unmarked c.args.mark.now c.args.text.now true
    (subst (λ (n : ℕ). starts_with nat_eq (drop n c.args.text.now) c.args.mark.now ≡ false) c.len_before_mark.ensures.value
    (subst (λ (b : List ℕ). starts_with nat_eq b c.args.mark.now ≡ false) c.split_at.ensures.back (sym c.starts_with.ensures.value ∙ c.if-not-starts_with.true)))

pub returns-clause-first : goal.returns-clause-first
returns-clause-first c =
    first_piece c.args.mark.now c.args.text.now c.split_at.result.0.now c.split_at.result.1.now c.split_at-2.result.1.now c.cut_line.result.0.now c.cut_line.result.1.now c.split_at-3.result.0.now c.split_at-3.result.1.now
    (cut_at _ _ _ _ c.split_at.ensures.front c.split_at.ensures.back)
    (sym c.len_before_mark.ensures.value ∙ sym c.split_at.ensures.front_len)
    (sym c.starts_with.ensures.value ∙ c.if-not-starts_with.false)
    c.split_at-2.ensures.back
    c.cut_line.ensures.line
    c.cut_line.ensures.below
    (cut_at _ _ _ _ c.split_at-3.ensures.front c.split_at-3.ensures.back)
    (sym c.len_before_mark-2.ensures.value ∙ sym c.split_at-3.ensures.front_len)
