use Rattle.std.proofs.Common.{◌≡◌, ◌≤◌, ◌++◌, length, map, vec_len, All}
use Rattle.std.specs.Vec.{vec_capacity}
use Rattle.state_core.specs.Store.{keeper_of}
use Rattle.sidecar_core.proofs.starting.stores_for.Given as goal

abbrev pub invariant-loop-keeper : goal.invariant-loop-keeper
invariant-loop-keeper g l = record {
  taken : l.fn.keepers.items ≡ l.yielded ++ l.keeper-iterator.rest.items;
  keepers : map keeper_of l.stores.items ≡ l.yielded;
  unused : All (λ store. store.used ≡ 0) l.stores.items;
  long : vec_len l.stores ≡ length l.yielded;
  room : length l.fn.keepers.items ≤ vec_capacity l.stores;
}
