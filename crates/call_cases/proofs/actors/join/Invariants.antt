use Rattle.turn_cell.specs.Sitting.{IsSeatOf}
use Rattle.call_cases.proofs.actors.join.Given as goal

abbrev pub invariant-loop : goal.invariant-loop
invariant-loop g l = IsSeatOf l.cell l.seat
