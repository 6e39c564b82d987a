use Rattle.std.proofs.Common.{rules, ◌∙◌, sym, refl, arith}
use Rattle.rule_expr.specs.Walking.{HaltsSteps}
use Rattle.rule_expr.proofs.Producing.{no_steps, more_steps}
use Rattle.rule_expr.proofs.Walking.{at_exit}
use Rattle.rule_expr.proofs.WalkingOperands.{steps_none, steps_again, steps_halts}
use Rattle.rule_expr.proofs.parser.Parser.steps.Goals as goal

pub loop-self-init : goal.loop-self-init
loop-self-init c = record { read = first_of (search (rules, no_steps), grind (arith, no_steps)); ops = refl; walk = steps_none c.args.in_has c.args.self.now.rest.now }

pub returns-in_err-name-clause-err : goal.returns-in_err-name-clause-err
returns-in_err-name-clause-err c = at_exit (HaltsSteps c.args.in_has c.args.self.now.rest.now) c.from_residual.result c.in_err-name.field-0.0 c.from_residual.ensures.1 (steps_halts c.loop-self.invariant.walk (c.in_err-name.ensures.err c.args.in_has (sym c.goes_on.ensures ∙ c.loop-self-test.true)))

pub loop-self-preserved : goal.loop-self-preserved
loop-self-preserved c = record { read = more_steps c.loop-self.invariant.read c.in_ok-name.ensures.ok c.in_ok-add.ensures.ok; ops = c.in_ok-name.ensures.ops ∙ c.loop-self.invariant.ops; walk = steps_again c.loop-self.invariant.walk (c.in_ok-name.ensures.walk c.args.in_has (sym c.goes_on.ensures ∙ c.loop-self-test.true)) }
