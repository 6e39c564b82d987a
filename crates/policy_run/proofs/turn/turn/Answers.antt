use Rattle.policy_run.proofs.Turning.{let_through, not_asked}
use Rattle.policy_run.proofs.turn.turn.Goals as goal

pub returns-in-LetThrough-clause-turn : goal.returns-in-LetThrough-clause-turn
returns-in-LetThrough-clause-turn g c = let_through _ (g.P.Operation.makes c.args.op.now c.args.limit) (λ xs. g.P.Operation.did c.args.op.now xs _) (λ xs. g.G.Guard.held c.args.guard.now xs _) (λ xs. g.G.Guard.held _ xs _) (λ xs. g.G.Guard.held c.args.guard.now xs _) _ _ _ (g.met.G.Guard.more _ _ _) _ _ _ c.admit.ensures.there c.in-LetThrough.ensures.admission c.attempt.ensures.rest

pub returns-in-Exhausted-clause-turn : goal.returns-in-Exhausted-clause-turn
returns-in-Exhausted-clause-turn g c = not_asked _ (g.P.Operation.makes c.args.op.now c.args.limit) (λ xs. g.P.Operation.did c.args.op.now xs _) (λ xs. g.G.Guard.held c.args.guard.now xs _) _ _ c.in-Exhausted.count (g.met.P.Operation.none _ c.requires.op) c.in-Exhausted.ensures.admission
