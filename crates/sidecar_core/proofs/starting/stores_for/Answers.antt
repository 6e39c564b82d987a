use Rattle.std.proofs.Common.{◌≡◌, ◌∙◌, ◌++◌, ◌∷◌, [], All, map, sym, ap, subst, arith, length-append, append_assoc}
use Rattle.std.proofs.lemmas.List.{map-append}
use Rattle.std.proofs.lemmas.List.Elements.{All-push}
use Rattle.state_core.specs.Store.{keeper_of}
use Rattle.sidecar_core.proofs.starting.stores_for.Goals as goal

pub loop-keeper-preserved : goal.loop-keeper-preserved
loop-keeper-preserved g c =
    let h = c.loop-keeper.invariant in let p = c.push_reserved.ensures in
    let taken = h.taken ∙ ap (λ l. c.loop-keeper.yielded ++ l) c.in-Some.ensures.steps.0 in record {
      taken = taken ∙ sym (append_assoc c.loop-keeper.yielded (c.in-Some.keeper ∷ []) c.next.new.self.rest.items);
      keepers = ap (map keeper_of) p.items ∙ map-append keeper_of c.loop-keeper.stores.items (c.new.result ∷ []) ∙ (λ i. h.keepers i ++ c.new.ensures.keeper i ∷ []);
      unused = subst (All (λ store. store.used ≡ 0)) (sym p.items) (All-push (λ store. store.used ≡ 0) c.loop-keeper.stores.items c.new.result h.unused c.new.ensures.unused);
      long = omega (arith, p.len, h.long, length-append c.loop-keeper.yielded (c.in-Some.keeper ∷ []));
      room = omega (arith, p.capacity, h.room);
    }
