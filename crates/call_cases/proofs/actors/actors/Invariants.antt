use Rattle.turn_cell.specs.Sitting.{IsSeatOf}
use Rattle.call_cases.proofs.actors.actors.Given as goal

abbrev pub invariant-loop-section : goal.invariant-loop-section
invariant-loop-section g l = IsSeatOf l.cell l.seat
