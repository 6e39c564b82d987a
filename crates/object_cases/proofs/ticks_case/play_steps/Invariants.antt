use Rattle.turn_cell.specs.Sitting.{IsSeatOf}
use Rattle.object_cases.proofs.ticks_case.play_steps.Given as goal

abbrev pub invariant-loop-section : goal.invariant-loop-section
invariant-loop-section g l = IsSeatOf l.cell l.seat
