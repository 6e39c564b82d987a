use Rattle.turn_cell.specs.Sitting.{IsSeatOf}
use Rattle.state_cases.proofs.noted.note_all.Given as goal

abbrev pub invariant-loop-section : goal.invariant-loop-section
invariant-loop-section g l = IsSeatOf l.cell l.seat
