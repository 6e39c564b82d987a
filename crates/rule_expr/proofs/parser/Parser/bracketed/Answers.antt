use Rattle.std.proofs.Common.{◌∙◌, sym, Bool}
use Rattle.rule_expr.specs.Places.{bracketed}
use Rattle.rule_expr.specs.Walking.{HaltsHome}
use Rattle.rule_expr.proofs.Walking.{at_exit}
use Rattle.rule_expr.proofs.WalkingOperands.{held_walk, held_halts, held_unclosed, quoteless}
use Rattle.rule_expr.proofs.parser.Parser.bracketed.Goals as goal

pub returns-in_err-name-in-Quote-clause-err : goal.returns-in_err-name-in-Quote-clause-err
returns-in_err-name-in-Quote-clause-err c = at_exit (λ why. (in_has : Bool) → HaltsHome bracketed in_has c.args.self.now.rest.now why) c.from_residual.result c.in_err-name-in-Quote.field-0.0 c.from_residual.ensures.1 (λ in_has. held_halts in_has (sym c.part.ensures ∙ c.in-Quote.is) c.in_err-name-in-Quote.ensures.err)

pub returns-in_err-close_square-in-Quote-clause-err : goal.returns-in_err-close_square-in-Quote-clause-err
returns-in_err-close_square-in-Quote-clause-err c = at_exit (λ why. (in_has : Bool) → HaltsHome bracketed in_has c.args.self.now.rest.now why) c.from_residual-in_err-close_square-in-Quote.result c.in_err-close_square-in-Quote.field-0.0 c.from_residual-in_err-close_square-in-Quote.ensures.1 (λ in_has. held_unclosed in_has _ c.in_ok-name-in-Quote.ensures.ok.leads c.in_err-close_square-in-Quote.ensures.err)

pub returns-in_ok-close_square-in-Quote-clause-walk : goal.returns-in_ok-close_square-in-Quote-clause-walk
returns-in_ok-close_square-in-Quote-clause-walk c = λ in_has. held_walk in_has _ c.in_ok-name-in-Quote.ensures.ok.leads c.in_ok-close_square-in-Quote.ensures.ok.leads

pub returns-in_default : goal.returns-in_default
returns-in_default c = record { ok = tt; ops = tt; walk = tt; err = λ in_has. quoteless in_has (λ bad. c.in_default.not-Quote (c.part.ensures ∙ bad)) c.refused.ensures }
