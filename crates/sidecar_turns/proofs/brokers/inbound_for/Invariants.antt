use Rattle.std.proofs.Common.{◌≡◌, length, map, take, All}
use Rattle.retry_core.specs.Bound.{IsWithinLimit}
use Rattle.sidecar_turns.specs.Brokers.{HaveBreakers, brokers_of, inbound_of}
use Rattle.sidecar_turns.proofs.brokers.inbound_for.Given as goal

abbrev pub invariant-loop-place : goal.invariant-loop-place
invariant-loop-place l = record {
  exact : l.inbound.items ≡ map (inbound_of l.policies) (brokers_of (take l.place l.components));
  within : All IsWithinLimit l.inbound.items;
  breakers : HaveBreakers (length l.policies.breakers) l.inbound.items;
}
