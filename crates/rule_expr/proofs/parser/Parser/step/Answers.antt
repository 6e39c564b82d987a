use Rattle.std.proofs.Common.{◌∙◌, sym}
use Rattle.rule_expr.proofs.WalkingOperands.{dotted_ok, dotted_err, bracketed_ok, bracketed_err}
use Rattle.rule_expr.proofs.parser.Parser.step.Goals as goal

pub returns-in-Dot-clause-walk : goal.returns-in-Dot-clause-walk
returns-in-Dot-clause-walk c = dotted_ok c.name.result c.args.self.now.rest.now c.pass.new.self.rest.now c.name.new.self.rest.now (sym c.part.ensures ∙ c.in-Dot.is) c.pass.ensures.rest c.name.ensures.walk

pub returns-in-Dot-clause-err : goal.returns-in-Dot-clause-err
returns-in-Dot-clause-err c = dotted_err c.name.result c.args.self.now.rest.now c.pass.new.self.rest.now (sym c.part.ensures ∙ c.in-Dot.is) c.pass.ensures.rest c.name.ensures.err

pub returns-in-OpenList-clause-walk : goal.returns-in-OpenList-clause-walk
returns-in-OpenList-clause-walk c = bracketed_ok c.bracketed.result c.args.self.now.rest.now c.pass-in-OpenList.new.self.rest.now c.bracketed.new.self.rest.now (sym c.part.ensures ∙ c.in-OpenList.is) c.pass-in-OpenList.ensures.rest c.bracketed.ensures.walk

pub returns-in-OpenList-clause-err : goal.returns-in-OpenList-clause-err
returns-in-OpenList-clause-err c = bracketed_err c.bracketed.result c.args.self.now.rest.now c.pass-in-OpenList.new.self.rest.now (sym c.part.ensures ∙ c.in-OpenList.is) c.pass-in-OpenList.ensures.rest c.bracketed.ensures.err
