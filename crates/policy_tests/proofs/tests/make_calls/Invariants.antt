use Rattle.turn_cell.specs.Sitting.{IsSeatOf}
use Rattle.policy_tests.proofs.tests.make_calls.Given as goal

abbrev pub invariant-loop-call : goal.invariant-loop-call
invariant-loop-call g l = IsSeatOf l.fn.cell l.seat
