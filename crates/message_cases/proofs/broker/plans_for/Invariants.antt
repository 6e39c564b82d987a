use Rattle.ledger_core.specs.Plan.{AreWithinLimit}
use Rattle.message_cases.proofs.broker.plans_for.Given as goal

abbrev pub invariant-loop-place : goal.invariant-loop-place
invariant-loop-place l = AreWithinLimit l.plans
