use Rattle.std.proofs.Common.{◌≡◌, false}
use Rattle.turn_cell.specs.Sitting.{IsSeatOf}
use Rattle.cell_tests.proofs.cells.write_often.Given as goal

abbrev pub invariant-loop : goal.invariant-loop
invariant-loop g l = IsSeatOf l.cell l.worker.seat × (l.worker.seat.is_root ≡ false)
