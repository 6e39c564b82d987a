use Rattle.std.proofs.Common.{◌≡◌, ◌∙◌, ◌<◌, ℕ, refl, subst, sym, arith}
use mathlib.Core.Option.{some}
use lib.ListN.{get_elem?}
use Rattle.atomic_table.proofs.Lists.{at_index}
use Rattle.sidecar_core.specs.Exchange.{no_actor, nowhere, kept}
use Rattle.sidecar_objects.specs.Composed.{does_nothing, does_as}
use Rattle.sidecar_core.proofs.Answering.{not_exhausted}
use Rattle.sidecar_core.proofs.Chosen.{chosen_low}
use Rattle.sidecar_core.proofs.InTurn.{is_named, is_unnamed}
use Rattle.sidecar_core.proofs.actor_state_request.at_actor_state.Goals as goal

pub index-requires : goal.index-requires
index-requires g c = omega (arith, c.args.shared.now.sites.ok, chosen_low c.args.shared.now.config c.in-Some.place c.args.shared.now.sites.items c.args.shared.now.has_sites (sym c.actor_store.ensures ∙ c.in-Some.is))

pub at_actor_site-requires-clause-breaker : goal.at_actor_site-requires-clause-breaker
at_actor_site-requires-clause-breaker g c =
    let low = chosen_low c.args.shared.now.config c.in-Some.place c.args.shared.now.sites.items c.args.shared.now.has_sites (sym c.actor_store.ensures ∙ c.in-Some.is) in
    let at = c.args.shared.now.bounds c.in-Some.place c.index.result.now (at_index c.args.shared.now.sites.items c.in-Some.place c.index.result.now low c.index.ensures) in
    λ k is. subst (λ (n : ℕ). k < n) (sym c.args.shared.now.breakers) (at k is)

pub at_actor_site-requires-clause-place : goal.at_actor_site-requires-clause-place
at_actor_site-requires-clause-place g c =
    subst (λ (n : ℕ). c.in-Some.place < n) (sym c.args.shared.now.stores) (chosen_low c.args.shared.now.config c.in-Some.place c.args.shared.now.sites.items c.args.shared.now.has_sites (sym c.actor_store.ensures ∙ c.in-Some.is))

pub returns-then-not-names_an_actor-clause-does : goal.returns-then-not-names_an_actor-clause-does
returns-then-not-names_an_actor-clause-does g c = λ link. does_nothing _ _ _ _ (no_actor (is_unnamed c.names_an_actor.result _ c.names_an_actor.ensures c.if-not-names_an_actor.true) (refl, c.given.ensures _ c.bad_actor.ensures))

pub returns-then-not-names_an_actor-clause-shows : goal.returns-then-not-names_an_actor-clause-shows
returns-then-not-names_an_actor-clause-shows g c = λ count is. not_exhausted _ c.given.result count (c.given.ensures _ c.bad_actor.ensures) is

pub returns-in-None-clause-does : goal.returns-in-None-clause-does
returns-in-None-clause-does g c = λ link. does_nothing _ _ _ _
    (nowhere (is_named c.names_an_actor.result _ c.names_an_actor.ensures c.if-not-names_an_actor.false) (sym c.actor_store.ensures ∙ c.in-None.is) (refl, c.given-in-None.ensures _ c.no_actor_store.ensures))

pub returns-in-None-clause-shows : goal.returns-in-None-clause-shows
returns-in-None-clause-shows g c = λ count is. not_exhausted _ c.given-in-None.result count (c.given-in-None.ensures _ c.no_actor_store.ensures) is

pub returns-in-Some-clause-does : goal.returns-in-Some-clause-does
returns-in-Some-clause-does g c = λ link.
    let low = chosen_low c.args.shared.now.config c.in-Some.place c.args.shared.now.sites.items c.args.shared.now.has_sites (sym c.actor_store.ensures ∙ c.in-Some.is) in
    let here = at_index c.args.shared.now.sites.items c.in-Some.place c.index.result.now low c.index.ensures in
    does_as _ _ _ _ _ _ (λ events at. kept (is_named c.names_an_actor.result _ c.names_an_actor.ensures c.if-not-names_an_actor.false) c.in-Some.place c.index.result.now
    (record { keeps = sym c.actor_store.ensures ∙ c.in-Some.is; there = subst (λ l. get_elem? l c.in-Some.place ≡ some c.index.result.now) c.args.shared.now.has_sites here }) at) (c.at_actor_site.ensures.does link)

pub returns-in-Some-clause-shows : goal.returns-in-Some-clause-shows
returns-in-Some-clause-shows g c = λ count is.
    let low = chosen_low c.args.shared.now.config c.in-Some.place c.args.shared.now.sites.items c.args.shared.now.has_sites (sym c.actor_store.ensures ∙ c.in-Some.is) in
    let here = at_index c.args.shared.now.sites.items c.in-Some.place c.index.result.now low c.index.ensures in record {
      place = c.in-Some.place;
      site = c.index.result.now;
      keeps = record { keeps = sym c.actor_store.ensures ∙ c.in-Some.is; there = subst (λ l. get_elem? l c.in-Some.place ≡ some c.index.result.now) c.args.shared.now.has_sites here };
      shown = c.at_actor_site.ensures.shows count is;
    }
