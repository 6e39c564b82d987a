use Rattle.ledger_core.specs.Plan.{AreWithinLimit}
use Rattle.object_cases.proofs.ledger_words.plans_of.Given as goal

abbrev pub invariant-loop-word : goal.invariant-loop-word
invariant-loop-word l = AreWithinLimit l.plans
