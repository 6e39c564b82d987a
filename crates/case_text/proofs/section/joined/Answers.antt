use Rattle.std.proofs.Common.{◌≡◌, ◌∙◌, ◌+◌, ◌++◌, drop, sym, subst, List, ℕ}
use Rattle.std.proofs.Math.ListN.{drop_of_length-le}
use Rattle.case_text.specs.Section.{joined_of}
use Rattle.case_text.proofs.Joining.{joined_at, passed_at, joined_all}
use Rattle.case_text.proofs.section.joined.Goals.{then-eq+in_ok-add_section, else-eq}
use Rattle.case_text.proofs.section.joined.Goals as goal

pub loop-section-preserved : goal.loop-section-preserved
loop-section-preserved c = elim c.if-eq.branch [
  | then-eq+in_ok-add_section w ↦ joined_at _ c.loop-section.all c.if-eq.all c.args.word.now c.args.sections.now c.loop-section.section-index _ c.loop-section-test.true (sym c.eq.ensures ∙ w.if-eq.true) (w.all-is ∙ w.in_ok-add_section.ensures) c.loop-section.invariant
  | else-eq w ↦ subst (λ (all : List ℕ). joined_of c.args.word.now c.args.sections.now ≡ all ++ joined_of c.args.word.now (drop (c.loop-section.section-index + 1) c.args.sections.now)) (sym w.all-is) (passed_at _ c.loop-section.all c.args.word.now c.args.sections.now c.loop-section.section-index _ c.loop-section-test.true (sym c.eq.ensures ∙ w.if-eq.false) c.loop-section.invariant)
]

pub returns : goal.returns
returns c = joined_all _ c.loop-section.all c.args.word.now _ (drop_of_length-le c.args.sections.now c.loop-section-test.false) c.loop-section.invariant
