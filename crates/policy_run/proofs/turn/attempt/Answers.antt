use Rattle.policy_run.proofs.Turning.{told, untold}
use Rattle.policy_run.proofs.turn.attempt.Goals as goal

pub returns-in-Ok-clause-rest : goal.returns-in-Ok-clause-rest
returns-in-Ok-clause-rest g c = told _ (g.P.Operation.makes c.args.op.now c.args.limit) _ _ (λ xs. g.P.Operation.did c.args.op.now xs _) (λ xs. g.G.Guard.held c.args.guard.now xs _) _ _ _ c.attempt-answer.ensures.made _ _ _ c.is_good.ensures c.in-Ok.ensures.report c.outcome_of.ensures

pub returns-in-Err-clause-rest : goal.returns-in-Err-clause-rest
returns-in-Err-clause-rest g c = untold _ (g.P.Operation.makes c.args.op.now c.args.limit) _ _ (λ xs. g.P.Operation.did c.args.op.now xs _) (λ xs. g.G.Guard.held c.args.guard.now xs _) _ _ _ c.attempt-answer.ensures.made c.is_good.result c.in-Err.field-0 c.in-Err.ensures.report
