use Rattle.std.proofs.Common.{None}
use Rattle.sidecar_workers.specs.Slots.{RoundOf}
use Rattle.sidecar_workers.proofs.workers.work_until_exit.Given as goal

abbrev pub invariant-loop : goal.invariant-loop
invariant-loop g l = (goal.iterator-loop g).can_next l.iterator' × (goal.iterator-loop g).is_finite l.iterator' × RoundOf g.W.Work l.initial.slot l.slot None
