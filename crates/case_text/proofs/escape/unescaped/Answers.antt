use Rattle.std.proofs.Common.{◌≡◌, ◌+◌, ℕ, List, Option, ◌++◌, drop, option_map, sym, subst, ◌∙◌}
use Rattle.std.proofs.Math.ListN.{drop_of_length-le}
use Rattle.case_text.specs.Reading.{undone}
use Rattle.case_text.specs.declared.escape.Place.TheVariants as Place
use Rattle.case_text.proofs.Marks.{next_at}
use Rattle.case_text.specs.Escape.{IsSaid}
use Rattle.case_text.proofs.Tokens.{is_said}
use Rattle.case_text.proofs.Undone.{step_on, no_step, at_the_end, unended}
use Rattle.case_text.proofs.escape.unescaped.Goals as goal

said_as : (text : List ℕ) (said : Option (List ℕ)) → undone Place.Outside text ≡ said → IsSaid text said
said_as text said is = subst (λ (o : Option (List ℕ)). IsSaid text o) is (is_said text)

pub returns-in-None : goal.returns-in-None
returns-in-None c = said_as _ _ (no_step _ _ _ _ _ _ (next_at c.args.text.now c.loop-byte.byte-index c.loop-byte-test.true) (sym c.step.ensures ∙ c.in-None.is) c.loop-byte.invariant)

pub loop-byte-preserved : goal.loop-byte-preserved
loop-byte-preserved c =
    let on = step_on _ _ _ _ _ _ c.in-Some.next (next_at c.args.text.now c.loop-byte.byte-index c.loop-byte-test.true) (sym c.step.ensures ∙ c.in-Some.is) c.loop-byte.invariant in
    subst (λ (s : List ℕ). undone Place.Outside c.args.text.now ≡ option_map (λ (m : List ℕ). s ++ m) (undone c.in-Some.next.place (drop (c.loop-byte.byte-index + 1) c.args.text.now))) (sym c.in_ok-add-in-Some.ensures) on

pub returns-in-Outside : goal.returns-in-Outside
returns-in-Outside c = said_as _ _ (at_the_end _ _ _ (drop_of_length-le c.args.text.now c.loop-byte-test.false) (subst (λ p. undone Place.Outside c.args.text.now ≡ option_map (λ (m : List ℕ). c.loop-byte.said ++ m) (undone p (drop c.loop-byte.byte-index c.args.text.now))) c.in-Outside.is c.loop-byte.invariant))

pub returns-in_default : goal.returns-in_default
returns-in_default c = said_as _ _ (unended _ _ _ c.loop-byte.place c.in_default.not-Outside (drop_of_length-le c.args.text.now c.loop-byte-test.false) c.loop-byte.invariant)
