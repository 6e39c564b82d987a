use Rattle.std.proofs.Common.{◌≡◌, Some, subst, arith}
use Rattle.atomic_table.proofs.Lists.{at_index, set_here}
use Rattle.retry_core.specs.declared.policy.Bound.{Bound}
use Rattle.sidecar_objects.specs.Kind.{breakers}
use Rattle.sidecar_turns.proofs.Linked.{asked_gated, asked_plainly}
use Rattle.sidecar_core.proofs.Requested.{service_called, breaker_low}
use Rattle.sidecar_core.proofs.binding_request.at_service.Goals as goal

pub index_mut-requires : goal.index_mut-requires
index_mut-requires g c = omega (arith, breaker_low _ _ c.in-Some.k c.bind-bound.ensures.within c.in-Some.is, c.args.shared.now.breakers, (c.requires.pass.each breakers).wide)

pub gated-requires-clause-key : goal.gated-requires-clause-key
gated-requires-clause-key g c =
    let low = breaker_low _ _ c.in-Some.k c.bind-bound.ensures.within c.in-Some.is in
    (c.requires.pass.each breakers).each c.in-Some.k c.index.result.now c.index_mut.result.now
    (at_index c.args.shared.now.objects.breakers.items c.in-Some.k c.index.result.now (omega (arith, low, c.args.shared.now.breakers)) c.index.ensures)
    (at_index c.args.pass.now.breakers.items c.in-Some.k c.index_mut.result.now (omega (arith, low, c.args.shared.now.breakers, (c.requires.pass.each breakers).wide)) c.index_mut.ensures.value)

pub returns-in-None-clause-does : goal.returns-in-None-clause-does
returns-in-None-clause-does g c = let r = c.invoke.ensures.binds in record {
  events = _;
  held = service_called c.args.shared.now.config c.args.request.now c.args.name.now c.args.component.now c.bind-bound.result _ _ _ r.0 c.invoke.result c.bind-bound.ensures.exact r.1;
  went = asked_plainly _ _ _ _ _ _ _ _ _ _ r.0 r.2;
}

pub returns-in-Some-clause-does : goal.returns-in-Some-clause-does
returns-in-Some-clause-does g c = let r = c.gated.ensures.binds in let low = breaker_low _ _ c.in-Some.k c.bind-bound.ensures.within c.in-Some.is in record {
  events = _;
  held = service_called c.args.shared.now.config c.args.request.now c.args.name.now c.args.component.now c.bind-bound.result _ _ _ r.0 c.gated.result c.bind-bound.ensures.exact r.1;
  went = asked_gated _ _ _ _ _ _ _ _ _ c.bind-bound.result c.in-Some.k c.in-Some.is c.index.result.now c.index_mut.result.now _
      (at_index c.args.shared.now.objects.breakers.items c.in-Some.k c.index.result.now (omega (arith, low, c.args.shared.now.breakers)) c.index.ensures)
      (at_index c.args.pass.now.breakers.items c.in-Some.k c.index_mut.result.now (omega (arith, low, c.args.shared.now.breakers, (c.requires.pass.each breakers).wide)) c.index_mut.ensures.value)
      r.0 r.2;
}

pub returns-in-Some-clause-shows : goal.returns-in-Some-clause-shows
returns-in-Some-clause-shows g c = λ count is.
    let low = breaker_low _ _ c.in-Some.k c.bind-bound.ensures.within c.in-Some.is in
    (c.in-Some.k, subst (λ (b : Bound). b.breaker ≡ Some c.in-Some.k) c.bind-bound.ensures.exact c.in-Some.is, (c.gated.new.key, set_here c.args.pass.now.breakers.items c.in-Some.k c.gated.new.key (omega (arith, low, c.args.shared.now.breakers, (c.requires.pass.each breakers).wide)), c.gated.ensures.shows count is))
