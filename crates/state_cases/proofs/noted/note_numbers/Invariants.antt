use Rattle.turn_cell.specs.Sitting.{IsSeatOf}
use Rattle.state_cases.proofs.noted.note_numbers.Given as goal

abbrev pub invariant-loop-each : goal.invariant-loop-each
invariant-loop-each g l = IsSeatOf l.cell l.seat
