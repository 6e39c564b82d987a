use Rattle.turn_cell.specs.Sitting.{IsSeatOf}
use Rattle.turn_cell.specs.Growth.{Stays}
use Rattle.object_cases.proofs.ticks_case.told_last.Given as goal

abbrev pub invariant-loop : goal.invariant-loop
invariant-loop g l = IsSeatOf l.cell l.seat × Stays l.initial.seat l.seat
