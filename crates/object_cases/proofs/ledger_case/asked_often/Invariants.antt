use Rattle.ledger_core.specs.Ledger.{IsReached}
use Rattle.object_cases.proofs.ledger_case.asked_often.Given as goal

abbrev pub invariant-loop : goal.invariant-loop
invariant-loop l = IsReached l.plans l.ledger
