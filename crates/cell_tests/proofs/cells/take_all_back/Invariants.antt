use Rattle.std.proofs.Common.{◌≡◌, true, false, length, All, vec_len}
use Rattle.turn_cell.specs.Sitting.{IsSeatOf}
use Rattle.cell_tests.proofs.cells.take_all_back.Given as goal

abbrev pub invariant-loop-worker : goal.invariant-loop-worker
invariant-loop-worker g l = record {
  seat : IsSeatOf l.cell l.root;
  root : l.root.is_root ≡ true;
  out : l.root.out ≡ length l.workers.items;
  each : All (λ worker. IsSeatOf l.cell worker.seat × (worker.seat.is_root ≡ false)) l.workers.items;
}

abbrev pub decreases-loop-worker : goal.decreases-loop-worker
decreases-loop-worker g l = vec_len l.workers
