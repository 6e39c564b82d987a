use Rattle.policy_run.proofs.Stepping.{answered, ran_out}
use Rattle.policy_run.proofs.breaker_at.BreakerAtGuard.step.Goals as goal

pub returns-clause-answered : goal.returns-clause-answered
returns-clause-answered g c = answered _ c.args.self.now.cell.now c.args.self.now.seat.ghost_name c.args.self.now.seat.now c.call.new.seat c.args.cmd.now (c.replies_fit_their_commands.ensures _) c.call.result _ c.call.ensures.ok c.stepped_by.ensures

pub returns-clause-exhausted : goal.returns-clause-exhausted
returns-clause-exhausted g c = ran_out _ c.args.self.now.cell.now c.args.self.now.seat.ghost_name c.args.self.now.seat.now c.call.new.seat c.args.cmd.now (c.replies_fit_their_commands.ensures _) c.call.result _ c.call.ensures.err c.stepped_by.ensures
