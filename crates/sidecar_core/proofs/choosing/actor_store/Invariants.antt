use Rattle.std.proofs.Common.{◌≤◌, drop}
use Rattle.sidecar_core.proofs.Chosen.{Passed}
use Rattle.sidecar_core.proofs.choosing.actor_store.Given as goal

abbrev pub invariant-loop-place : goal.invariant-loop-place
invariant-loop-place l = record {
  exact : Passed l.components l.stores (drop l.place l.components);
  within : l.stores ≤ l.place;
}
