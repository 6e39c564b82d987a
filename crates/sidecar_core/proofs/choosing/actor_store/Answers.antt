use Rattle.std.proofs.Common.{◌∙◌, sym, arith}
use Rattle.sidecar_core.proofs.Chosen.{passed_all, passed_found, passed_next, passed_none}
use Rattle.sidecar_core.proofs.choosing.actor_store.Goals as goal

pub loop-place-init : goal.loop-place-init
loop-place-init c = record {
  exact = passed_none c.args.components.now;
  within = omega arith;
}

pub loop-place-preserved : goal.loop-place-preserved
loop-place-preserved c = record {
  exact = passed_next c.args.components.now c.loop-place.stores c.loop-place.place c.at-component.result.now (omega (arith, c.loop-place-test.true, c.len-place-end.ensures.exact)) c.at-component.ensures c.count_of-stores.result
      (sym c.is_actor_store.ensures ∙ c.if-is_actor_store.false) c.count_of-stores.ensures.exact c.loop-place.invariant.exact;
  within = omega (arith, c.count_of-stores.ensures.within, c.loop-place.invariant.within);
}

pub returns-then-is_actor_store : goal.returns-then-is_actor_store
returns-then-is_actor_store c = sym (passed_found c.args.components.now c.loop-place.stores c.loop-place.place c.at-component.result.now (omega (arith, c.loop-place-test.true, c.len-place-end.ensures.exact)) c.at-component.ensures
    (sym c.is_actor_store.ensures ∙ c.if-is_actor_store.true) c.loop-place.invariant.exact)

pub returns : goal.returns
returns c = sym (passed_all c.args.components.now c.loop-place.stores c.loop-place.place (omega (arith, c.loop-place-test.false, c.len-place-end.ensures.exact)) c.loop-place.invariant.exact)
