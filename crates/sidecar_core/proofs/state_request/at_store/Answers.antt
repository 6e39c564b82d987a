use Rattle.std.proofs.Common.{◌≡◌, ◌∙◌, ◌<◌, ℕ, length, rules, refl, subst, sym}
use mathlib.Core.Option.{some}
use lib.ListN.{get_elem?}
use Rattle.atomic_table.proofs.Lists.{at_index}
use Rattle.sidecar_core.specs.Exchange.{unknown, found}
use Rattle.sidecar_objects.specs.Composed.{does_nothing, does_as}
use Rattle.sidecar_core.proofs.Answering.{has_store, not_exhausted}
use Rattle.sidecar_core.proofs.state_request.at_store.Goals as goal

pub at_site-requires-clause-breaker : goal.at_site-requires-clause-breaker
at_site-requires-clause-breaker g c =
    let low : c.in-Some.place < length c.args.shared.now.sites.items = search rules in
    let at = c.args.shared.now.bounds c.in-Some.place c.index.result.now (at_index c.args.shared.now.sites.items c.in-Some.place c.index.result.now low c.index.ensures) in
    λ k is. subst (λ (n : ℕ). k < n) (sym c.args.shared.now.breakers) (at k is)

pub at_site-requires-clause-state : goal.at_site-requires-clause-state
at_site-requires-clause-state g c = has_store c.args.route.now c.args.name.now c.requires.store

pub returns-in-None-clause-does : goal.returns-in-None-clause-does
returns-in-None-clause-does g c = λ link. does_nothing _ _ _ _ (unknown (sym c.place_of.ensures ∙ c.in-None.is) (refl, c.given.ensures _ c.no_store.ensures))

pub returns-in-None-clause-shows : goal.returns-in-None-clause-shows
returns-in-None-clause-shows g c = λ count is. not_exhausted _ c.given.result count (c.given.ensures _ c.no_store.ensures) is

pub returns-in-Some-clause-does : goal.returns-in-Some-clause-does
returns-in-Some-clause-does g c = λ link.
    let low : c.in-Some.place < length c.args.shared.now.sites.items = search rules in
    let here = at_index c.args.shared.now.sites.items c.in-Some.place c.index.result.now low c.index.ensures in
    does_as _ _ _ _ _ _ (λ events at. found c.in-Some.place c.index.result.now (record { named = sym c.place_of.ensures ∙ c.in-Some.is; there = subst (λ l. get_elem? l c.in-Some.place ≡ some c.index.result.now) c.args.shared.now.has_sites here }) at) (c.at_site.ensures.does link)

pub returns-in-Some-clause-shows : goal.returns-in-Some-clause-shows
returns-in-Some-clause-shows g c = λ count is.
    let low : c.in-Some.place < length c.args.shared.now.sites.items = search rules in
    let here = at_index c.args.shared.now.sites.items c.in-Some.place c.index.result.now low c.index.ensures in record {
      place = c.in-Some.place;
      site = c.index.result.now;
      named = record { named = sym c.place_of.ensures ∙ c.in-Some.is; there = subst (λ l. get_elem? l c.in-Some.place ≡ some c.index.result.now) c.args.shared.now.has_sites here };
      shown = c.at_site.ensures.shows count is;
    }
