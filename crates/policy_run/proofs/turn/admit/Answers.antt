use Rattle.std.proofs.Common.{rules}
use Rattle.policy_run.proofs.Asking.{admitted, unadmitted, unasked}
use Rattle.policy_run.proofs.turn.admit.Goals as goal

pub returns-in-Answered-clause-admission : goal.returns-in-Answered-clause-admission
returns-in-Answered-clause-admission g c = admitted (λ xs. g.G.Guard.held c.args.guard.now xs _) _ _ _ (record { later = c.now-now.ensures.later; last = c.now-now.ensures.last; paused = c.now-now.ensures.paused; ticks = c.now-now.ensures.ticks }) _ _ _ (search rules) (c.step.ensures.answered _ c.in-Answered.is) c.admission_by.ensures

pub returns-in-Exhausted-clause-admission : goal.returns-in-Exhausted-clause-admission
returns-in-Exhausted-clause-admission g c = unadmitted (λ xs. g.G.Guard.held c.args.guard.now xs _) _ _ _ (record { later = c.now-now.ensures.later; last = c.now-now.ensures.last; paused = c.now-now.ensures.paused; ticks = c.now-now.ensures.ticks }) _ c.in-Exhausted.count (search rules) (c.step.ensures.exhausted _ c.in-Exhausted.is).0

pub returns-then-not-is_there-clause-admission : goal.returns-then-not-is_there-clause-admission
returns-then-not-is_there-clause-admission g c = unasked (λ xs. g.G.Guard.held c.args.guard.now xs c.args.guard.now) _ (g.met.G.Guard.none _ c.requires) _ (search rules)
