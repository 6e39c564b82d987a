use Rattle.std.proofs.Common.{rules, ◌≡◌, ◌∙◌, ap, sym, subst, ◌+◌, [], ◌∷◌, drop, true, arith}
use Rattle.std.proofs.lemmas.List.{drop_more, drop_all}
use Rattle.rule_value.specs.Codes.{fits, are_utf8, after_step, top_of}
use Rattle.rule_value.specs.Stacks.{stacked}
use Rattle.rule_value.proofs.Answering.{top_is, at_end, step_on}
use Rattle.rule_value.proofs.Computing.{answers}
use Rattle.rule_value.proofs.Heights.{fits_next, utf8_next}
use Rattle.rule_value.proofs.answer.matches.Goals as goal

pub loop-op-preserved : goal.loop-op-preserved
loop-op-preserved c =
    let all = c.args.expr.now.ops.items in
    let i = c.loop-op.op-index in
    let op = c.op-item.result in
    let at : drop i all ≡ op ∷ drop (i + 1) all = drop_more all i op (omega arith) ∙ ap (λ x. x ∷ drop (i + 1) all) (search rules) in
    let next = fits_next c.loop-op.stack.height op (drop (i + 1) all) (subst (λ own. fits c.loop-op.stack.height own ≡ true) at c.loop-op.invariant.fits) in
    record {
      readable = c.step.ensures.readable;
      most = omega (arith, c.step.ensures.height, next.1);
      fits = subst (λ height. fits height (drop (i + 1) all) ≡ true) (sym c.step.ensures.height) next.2;
      utf8 = (utf8_next op (drop (i + 1) all) (subst (λ own. are_utf8 own ≡ true) at c.loop-op.invariant.utf8)).1;
      values = λ shown is. (let before = c.loop-op.invariant.values shown is in
          (after_step shown op before.0, c.step.ensures.values shown is before.0 before.1, step_on shown all (drop i all) (drop (i + 1) all) op before.0 at before.2));
    }

pub returns-clause-verdict : goal.returns-clause-verdict
returns-clause-verdict c shown is =
    let all = c.args.expr.now.ops.items in
    let i = c.loop-op.op-index in
    let before = c.loop-op.invariant.values shown is in
    let none_left : drop i all ≡ [] = drop_all i all (omega (arith, c.loop-op-test.false)) in
    at_end shown all (drop i all) before.0 c.truth_of.result none_left before.2
    (c.truth_of.ensures c.args.event.now (top_of before.0) (top_is c.args.event.now (stacked c.loop-op.stack) (stacked c.pop.new.self) c.pop.result before.0 c.pop.ensures.values before.1))

pub returns-clause-value : goal.returns-clause-value
returns-clause-value c shown tree is expr = returns-clause-verdict c shown is ∙ answers shown tree c.args.expr.now.ops.items expr
