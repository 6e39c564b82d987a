use Rattle.std.proofs.Common.{arith}
use Rattle.sidecar_turns.specs.Brokers.{inbound_of, is_broker}
use Rattle.sidecar_turns.proofs.Gathered.{more_made}
use Rattle.sidecar_turns.proofs.brokers.inbound_for.Goals as goal

pub loop-place-preserved : goal.loop-place-preserved
loop-place-preserved c = let h = c.loop-place.invariant in record {
  exact = more_made c.args.components.now c.loop-place.place c.at.result.now (omega (arith, c.loop-place-test.true, c.len-place-end.ensures.exact)) c.at.ensures (λ z. is_broker z.kind) (inbound_of c.args.policies.now) _ _ h.exact c.in_ok-add_broker.ensures.added;
  within = c.in_ok-add_broker.ensures.within h.within;
  breakers = c.in_ok-add_broker.ensures.breakers h.breakers;
}
