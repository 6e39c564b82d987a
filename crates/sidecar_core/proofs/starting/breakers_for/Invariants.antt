use Rattle.std.proofs.Common.{◌≡◌, ◌≤◌, length, map, take, vec_len, All}
use Rattle.std.specs.Vec.{vec_capacity}
use Rattle.breaker_core.specs.Breaker.{policy_of}
use Rattle.sidecar_core.proofs.starting.breakers_for.Given as goal

abbrev pub invariant-loop-place : goal.invariant-loop-place
invariant-loop-place l = record {
  policies : map policy_of l.breakers.items ≡ take l.place l.policies;
  unused : All (λ breaker. breaker.used ≡ 0) l.breakers.items;
  long : vec_len l.breakers ≡ l.place;
  room : length l.policies ≤ vec_capacity l.breakers;
}
