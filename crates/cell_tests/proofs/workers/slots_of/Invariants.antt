use Rattle.std.proofs.Common.{◌≡◌, true, false, None, All}
use Rattle.sidecar_workers.specs.declared.work.Owed.TheVariants as owed
use Rattle.cell_tests.proofs.workers.slots_of.Given as goal

abbrev pub invariant-loop-script : goal.invariant-loop-script
invariant-loop-script l = record {
  seat : l.root.table ≡ l.stop;
  root : l.root.is_root ≡ true;
  each : All (λ slot. (slot.seat.table ≡ l.stop) × (slot.seat.ended ≡ None) × (slot.work.owed ≡ owed.Nothing) × (slot.work.over ≡ false)) l.slots.items;
}
