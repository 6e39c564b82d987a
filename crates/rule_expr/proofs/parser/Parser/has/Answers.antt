use Rattle.rule_expr.specs.Walking.{HaltsOperand}
use Rattle.rule_expr.proofs.Walking.{at_exit, put_atom}
use Rattle.rule_expr.proofs.WalkingOperands.{has_walk, has_unopened, has_eventless, has_halts, has_unclosed}
use Rattle.rule_expr.proofs.parser.Parser.has.Goals as goal

pub returns-in_err-open_round-clause-err : goal.returns-in_err-open_round-clause-err
returns-in_err-open_round-clause-err c = at_exit (HaltsOperand c.args.room c.args.self.now.rest.now) c.from_residual.result c.in_err-open_round.field-0.0 c.from_residual.ensures.1 (has_unopened c.requires c.pass.ensures.rest c.in_err-open_round.ensures.err)

pub returns-in_err-event-clause-err : goal.returns-in_err-event-clause-err
returns-in_err-event-clause-err c = at_exit (HaltsOperand c.args.room c.args.self.now.rest.now) c.from_residual-in_err-event.result c.in_err-event.field-0.0 c.from_residual-in_err-event.ensures.1 (has_eventless c.requires c.pass.ensures.rest c.in_ok-open_round.ensures.ok.leads c.in_ok-open_round.ensures.room c.in_err-event.ensures.err)

pub returns-in_err-path-clause-err : goal.returns-in_err-path-clause-err
returns-in_err-path-clause-err c = at_exit (HaltsOperand c.args.room c.args.self.now.rest.now) c.from_residual-in_err-path.result c.in_err-path.field-0.0 c.from_residual-in_err-path.ensures.1 (has_halts c.requires c.pass.ensures.rest c.in_ok-open_round.ensures.ok.leads c.in_ok-open_round.ensures.room c.in_ok-event.ensures.ok.leads c.in_err-path.ensures.err)

pub returns-in_err-close_round-clause-err : goal.returns-in_err-close_round-clause-err
returns-in_err-close_round-clause-err c = at_exit (HaltsOperand c.args.room c.args.self.now.rest.now) c.from_residual-in_err-close_round.result c.in_err-close_round.field-0.0 c.from_residual-in_err-close_round.ensures.1 (has_unclosed c.requires c.pass.ensures.rest c.in_ok-open_round.ensures.ok.leads c.in_ok-open_round.ensures.room c.in_ok-event.ensures.ok.leads c.in_ok-path.ensures.walk.0 c.in_ok-path.ensures.walk.1 c.in_err-close_round.ensures.err)

pub returns-clause-walk : goal.returns-clause-walk
returns-clause-walk c = put_atom c.put.result c.put.ensures.rest (has_walk c.requires c.pass.ensures.rest c.in_ok-open_round.ensures.ok.leads c.in_ok-open_round.ensures.room c.in_ok-event.ensures.ok.leads c.in_ok-path.ensures.walk.0 c.in_ok-close_round.ensures.ok.leads)
