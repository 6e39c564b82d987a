use Rattle.std.proofs.Common.{refl}
use Rattle.rand_core.specs.Stream.{next_u64}
use Rattle.side_world.specs.Moments.{Drawn}
use Rattle.policy_run.specs.Attempts.{limit_of}
use Rattle.policy_run.proofs.Trying.{once}
use Rattle.policy_run.proofs.run.run_call.Goals as goal

pub returns-in-None-clause-attempts : goal.returns-in-None-clause-attempts
returns-in-None-clause-attempts g c = once _ (g.P.Operation.makes c.args.op.now) (limit_of c.args.bound.now) c.unwrap_or-limit.result c.unwrap_or-limit.ensures _ _ (λ xs. g.P.Operation.did c.args.op.now xs _) (λ xs. g.G.Guard.held c.args.guard.now xs _) _ _ (λ ws. Drawn next_u64 (g.R.Rng.stream c.args.rng.now) ws (g.R.Rng.stream c.args.rng.now)) _ _ c.requires.breaker c.in-None.is refl c.outcome_of_last.ensures c.turn.ensures.turn
