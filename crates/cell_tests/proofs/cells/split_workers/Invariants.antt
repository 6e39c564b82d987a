use Rattle.std.proofs.Common.{◌≡◌, ◌+◌, true, false, length, All}
use Rattle.turn_cell.specs.Sitting.{IsSeatOf}
use Rattle.cell_tests.proofs.cells.split_workers.Given as goal

abbrev pub invariant-loop : goal.invariant-loop
invariant-loop l = record {
  seat : IsSeatOf l.cell l.root;
  root : l.root.is_root ≡ true;
  made : l.root.made ≡ l.counter + 1;
  out : l.root.out ≡ length l.workers.items;
  each : All (λ worker. IsSeatOf l.cell worker.seat × (worker.seat.is_root ≡ false)) l.workers.items;
}
