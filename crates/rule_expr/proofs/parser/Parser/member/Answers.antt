use Rattle.rule_expr.specs.Walking.{HaltsOperand}
use Rattle.rule_expr.proofs.Walking.{at_exit, put_atom}
use Rattle.rule_expr.proofs.WalkingOperands.{member_walk, member_halts}
use Rattle.rule_expr.proofs.parser.Parser.member.Goals as goal

pub returns-in_err-path-clause-err : goal.returns-in_err-path-clause-err
returns-in_err-path-clause-err c = at_exit (HaltsOperand c.args.room c.args.self.now.rest.now) c.from_residual.result c.in_err-path.field-0.0 c.from_residual.ensures.1 (member_halts c.requires c.pass.ensures.rest c.in_err-path.ensures.err)

pub returns-clause-walk : goal.returns-clause-walk
returns-clause-walk c = put_atom c.put.result c.put.ensures.rest (member_walk c.requires c.pass.ensures.rest c.in_ok-path.ensures.walk.0 c.in_ok-path.ensures.walk.1)
