use Rattle.std.proofs.Common.{◌≡◌, ◌+◌, ◌*◌, ◌^◌, ◌≤◌, take}
use Rattle.keeper_core.specs.Growth.{bytes_put}
use Rattle.keeper_core.proofs.growth.bytes_put.Given as goal

abbrev pub invariant-loop-change : goal.invariant-loop-change
invariant-loop-change l = record {
  so_far : l.put ≡ bytes_put (take l.change-index l.changes);
  few : l.put ≤ l.change-index * (2 ^ 64 + 8);
}
