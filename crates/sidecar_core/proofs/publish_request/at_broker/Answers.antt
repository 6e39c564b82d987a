use Rattle.std.proofs.Common.{refl, subst, arith}
use Rattle.sidecar_core.specs.Called.{AtLedger, broker, no_broker}
use Rattle.sidecar_objects.specs.Composed.{does_nothing, does_as}
use Rattle.sidecar_objects.specs.Shown.{ShowsAt}
use Rattle.sidecar_core.proofs.Answering.{not_exhausted}
use Rattle.sidecar_core.proofs.Requested.{ledger_low, named_here, named_kind, named_low}
use Rattle.sidecar_core.proofs.Statuses.{given_between}
use Rattle.sidecar_core.proofs.publish_request.at_broker.Goals as goal

pub at-requires : goal.at-requires
at-requires g c = named_low _ _ c.in-Some.place _ (c.broker_named.ensures.found c.in-Some.place c.in-Some.is)

pub ledger_of-requires : goal.ledger_of-requires
ledger_of-requires g c = omega (arith, named_low _ _ c.in-Some.place _ (c.broker_named.ensures.found c.in-Some.place c.in-Some.is))

pub at_ledger-requires-clause-ledger : goal.at_ledger-requires-clause-ledger
at_ledger-requires-clause-ledger g c = let found = c.broker_named.ensures.found c.in-Some.place c.in-Some.is in
    omega (arith, c.ledger_of.ensures, c.args.shared.now.ledgers, ledger_low c.args.shared.now.config.components c.in-Some.place found.0 found.1.there found.2)

pub returns-in-Some-clause-does : goal.returns-in-Some-clause-does
returns-in-Some-clause-does g c = λ link. let found = c.broker_named.ensures.found c.in-Some.place c.in-Some.is in
    does_as _ _ _ _ _ _ (λ events at. broker c.in-Some.place c.at.result.now (named_here _ _ c.in-Some.place _ found c.at.result.now c.at.ensures) (named_kind _ _ c.in-Some.place _ found c.at.result.now c.at.ensures)
    (subst (λ n. AtLedger c.args.shared.now.config c.args.request.now c.at.result.now c.args.topic.now n events c.at_ledger.result) c.ledger_of.ensures at)) (c.at_ledger.ensures.does link)

pub returns-in-Some-clause-shows : goal.returns-in-Some-clause-shows
returns-in-Some-clause-shows g c = λ count is. let found = c.broker_named.ensures.found c.in-Some.place c.in-Some.is in record {
  place = c.in-Some.place;
  component = c.at.result.now;
  named = named_here _ _ c.in-Some.place _ found c.at.result.now c.at.ensures;
  kind = named_kind _ _ c.in-Some.place _ found c.at.result.now c.at.ensures;
  shown = subst (λ n. ShowsAt n count c.at_ledger.new.pass.ledgers.items) c.ledger_of.ensures (c.at_ledger.ensures.shows count is);
}

pub returns-in-None-clause-does : goal.returns-in-None-clause-does
returns-in-None-clause-does g c = λ link. does_nothing _ _ _ _ (no_broker (c.broker_named.ensures.none c.in-None.is) (refl, c.given.ensures _ c.unknown_pubsub.ensures))

pub returns-in-None-clause-shows : goal.returns-in-None-clause-shows
returns-in-None-clause-shows g c = λ count is. not_exhausted _ c.given.result count (c.given.ensures _ c.unknown_pubsub.ensures) is

pub returns-in-None-clause-status : goal.returns-in-None-clause-status
returns-in-None-clause-status g c = given_between _ c.given.result (omega arith, omega arith) (c.given.ensures _ c.unknown_pubsub.ensures)
