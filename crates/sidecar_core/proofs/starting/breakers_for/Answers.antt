use Rattle.std.proofs.Common.{◌≡◌, ◌∙◌, ◌+◌, ◌++◌, ◌∷◌, [], All, map, sym, ap, subst, arith}
use Rattle.std.proofs.lemmas.List.{map-append}
use Rattle.std.proofs.lemmas.List.Elements.{All-push}
use Rattle.breaker_core.specs.Breaker.{policy_of}
use Rattle.sidecar_core.proofs.Gathered.{one_more}
use Rattle.sidecar_core.proofs.starting.breakers_for.Goals as goal

pub push_reserved-requires : goal.push_reserved-requires
push_reserved-requires c = omega (arith, c.loop-place.invariant.room, c.loop-place.invariant.long, c.loop-place-test.true, c.len-place-end.ensures)

pub loop-place-preserved : goal.loop-place-preserved
loop-place-preserved c = let p = c.push_reserved.ensures in record {
  policies = ap (map policy_of) p.items ∙ map-append policy_of c.loop-place.breakers.items (c.new.result ∷ []) ∙ (λ i. c.loop-place.invariant.policies i ++ c.new.ensures.policy i ∷ [])
      ∙ sym (one_more c.args.policies.now c.loop-place.place c.at.result.now (omega (arith, c.loop-place-test.true, c.len-place-end.ensures)) c.at.ensures);
  unused = subst (All (λ breaker. breaker.used ≡ 0)) (sym p.items) (All-push (λ breaker. breaker.used ≡ 0) c.loop-place.breakers.items c.new.result c.loop-place.invariant.unused c.new.ensures.unused);
  long = p.len ∙ ap (λ n. n + 1) c.loop-place.invariant.long;
  room = omega (arith, p.capacity, c.loop-place.invariant.room);
}
