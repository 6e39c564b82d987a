use Rattle.ledger_core.specs.Ledger.{IsReached}
use Rattle.object_cases.proofs.ledger_case.steps.Given as goal

abbrev pub invariant-loop-section : goal.invariant-loop-section
invariant-loop-section l = IsReached l.plans l.ledger
