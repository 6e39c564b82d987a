use Rattle.std.proofs.Common.{rules}
use Rattle.policy_run.proofs.Asking.{reported, unreported, untold}
use Rattle.policy_run.proofs.turn.report.Goals as goal

pub returns-in-Answered-clause-report : goal.returns-in-Answered-clause-report
returns-in-Answered-clause-report g c = reported (λ xs. g.G.Guard.held c.args.guard.now xs _) _ _ _ (record { later = c.now-now.ensures.later; last = c.now-now.ensures.last; paused = c.now-now.ensures.paused; ticks = c.now-now.ensures.ticks }) _ _ _ _ (search rules) (c.step.ensures.answered _ c.in-Answered.is)

pub returns-in-Exhausted-clause-report : goal.returns-in-Exhausted-clause-report
returns-in-Exhausted-clause-report g c = unreported (λ xs. g.G.Guard.held c.args.guard.now xs _) _ _ _ (record { later = c.now-now.ensures.later; last = c.now-now.ensures.last; paused = c.now-now.ensures.paused; ticks = c.now-now.ensures.ticks }) _ c.args.generation c.args.good (record { count = c.in-Exhausted.count }) (search rules) (c.step.ensures.exhausted _ c.in-Exhausted.is).0

pub returns-then-not-there-clause-report : goal.returns-then-not-there-clause-report
returns-then-not-there-clause-report g c = untold (λ xs. g.G.Guard.held c.args.guard.now xs c.args.guard.now) _ (g.met.G.Guard.none _ c.requires) _ _ _ (search rules)
