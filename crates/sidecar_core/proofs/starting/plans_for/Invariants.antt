use Rattle.std.proofs.Common.{◌≡◌, map, take}
use Rattle.ledger_core.specs.Plan.{AreWithinLimit}
use Rattle.sidecar_core.specs.Plans.{plan_of}
use Rattle.sidecar_core.proofs.starting.plans_for.Given as goal

abbrev pub invariant-loop-place : goal.invariant-loop-place
invariant-loop-place l = record {
  exact : l.plans ≡ map (plan_of l.policies) (take l.place l.subs);
  within : AreWithinLimit l.plans;
}
