use Rattle.std.proofs.Common.{◌≡◌, ◌≤◌, ◌+◌, true}
use Rattle.turn_cell.specs.Sitting.{IsSeatOf}
use Rattle.objects_speed.proofs.callers.places.Given as goal

abbrev pub invariant-loop : goal.invariant-loop
invariant-loop l = record {
  seat : IsSeatOf l.cell l.root;
  root : l.root.is_root ≡ true;
  made : l.root.made ≤ 1 + l.counter;
}
