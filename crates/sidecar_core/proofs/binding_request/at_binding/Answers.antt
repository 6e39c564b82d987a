use Rattle.std.proofs.Common.{refl, arith}
use Rattle.sidecar_core.specs.Called.{known, unknown_name}
use Rattle.sidecar_objects.specs.Composed.{does_nothing, does_as}
use Rattle.sidecar_core.proofs.Answering.{not_exhausted}
use Rattle.sidecar_core.proofs.Requested.{named_here, named_kind, named_low}
use Rattle.sidecar_core.proofs.Statuses.{given_between}
use Rattle.sidecar_core.proofs.binding_request.at_binding.Goals as goal

pub at-requires : goal.at-requires
at-requires g c = named_low _ _ c.in-Some.place _ (c.binding_named.ensures.found c.in-Some.place c.in-Some.is)

pub at_service-requires-clause-kind : goal.at_service-requires-clause-kind
at_service-requires-clause-kind g c = named_kind _ _ c.in-Some.place _ (c.binding_named.ensures.found c.in-Some.place c.in-Some.is) c.at.result.now c.at.ensures

pub returns-in-Some-clause-does : goal.returns-in-Some-clause-does
returns-in-Some-clause-does g c = let found = c.binding_named.ensures.found c.in-Some.place c.in-Some.is in
    does_as _ _ _ _ _ _ (λ events at. known c.in-Some.place c.at.result.now (named_here _ _ c.in-Some.place _ found c.at.result.now c.at.ensures) (named_kind _ _ c.in-Some.place _ found c.at.result.now c.at.ensures) at) c.at_service.ensures.does

pub returns-in-Some-clause-shows : goal.returns-in-Some-clause-shows
returns-in-Some-clause-shows g c = c.at_service.ensures.shows

pub returns-in-None-clause-does : goal.returns-in-None-clause-does
returns-in-None-clause-does g c = does_nothing _ _ _ _ (unknown_name (c.binding_named.ensures.none c.in-None.is) (refl, c.given.ensures _ c.unknown_binding.ensures))

pub returns-in-None-clause-shows : goal.returns-in-None-clause-shows
returns-in-None-clause-shows g c = λ count is. not_exhausted _ c.given.result count (c.given.ensures _ c.unknown_binding.ensures) is

pub returns-in-None-clause-status : goal.returns-in-None-clause-status
returns-in-None-clause-status g c = given_between _ c.given.result (omega arith, omega arith) (c.given.ensures _ c.unknown_binding.ensures)
