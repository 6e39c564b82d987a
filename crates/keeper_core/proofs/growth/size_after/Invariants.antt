use Rattle.std.proofs.Common.{◌≡◌, ◌+◌, ◌*◌, ◌^◌, ◌≤◌, take}
use Rattle.keeper_core.specs.Rows.{bytes_in}
use Rattle.keeper_core.specs.Changes.{after_changes}
use Rattle.keeper_core.proofs.Overlay.{Notes}
use Rattle.keeper_core.proofs.growth.size_after.Given as goal

abbrev pub invariant-loop-change : goal.invariant-loop-change
invariant-loop-change l = record {
  len_is : l.len ≡ bytes_in (after_changes l.table.rows (take l.change-index l.changes));
  notes : Notes l.taken l.table.rows (after_changes l.table.rows (take l.change-index l.changes));
  few : l.len ≤ l.size + l.change-index * (2 ^ 64 + 8);
}
