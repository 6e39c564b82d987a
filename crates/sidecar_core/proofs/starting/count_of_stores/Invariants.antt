use Rattle.std.proofs.Common.{◌≡◌, ◌≤◌, length, take}
use Rattle.sidecar_core.specs.Sites.{stores_of}
use Rattle.sidecar_core.proofs.starting.count_of_stores.Given as goal

abbrev pub invariant-loop-place : goal.invariant-loop-place
invariant-loop-place l = record {
  exact : l.count ≡ length (stores_of (take l.place l.components));
  within : l.count ≤ l.place;
}
