use Rattle.std.proofs.Common.{◌≡◌, ◌≤◌, ◌++◌, length, map, vec_len}
use Rattle.std.specs.Vec.{vec_capacity}
use Rattle.state_core.specs.Store.{keeper_of}
use Rattle.sidecar_core.proofs.closing.give_back.Given as goal

abbrev pub invariant-loop-store : goal.invariant-loop-store
invariant-loop-store g l = record {
  taken : l.fn.stores.items ≡ l.yielded ++ l.store-iterator.rest.items;
  given : l.keepers.items ≡ map keeper_of l.yielded;
  long : vec_len l.keepers ≡ length l.yielded;
  room : length l.fn.stores.items ≤ vec_capacity l.keepers;
}
