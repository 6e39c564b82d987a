use Rattle.std.proofs.Common.{ℕ, List, refl, subst, arith}
use Rattle.sidecar_objects.specs.Composed.{does_nothing, does_as}
use Rattle.sidecar_core.specs.Actors.{AtTurns, called, lacks, refused}
use Rattle.sidecar_core.proofs.Answering.{not_exhausted}
use Rattle.sidecar_core.proofs.InTurn.{is_named, is_unnamed}
use Rattle.sidecar_core.proofs.Statuses.{fine_given}
use Rattle.sidecar_core.proofs.actor_request.at_actor.Goals as goal

pub returns-then-not-names_an_actor-clause-does : goal.returns-then-not-names_an_actor-clause-does
returns-then-not-names_an_actor-clause-does g c = λ words. does_nothing _ _ _ _ (refused (is_unnamed c.names_an_actor.result _ c.names_an_actor.ensures c.if-not-names_an_actor.true) (refl, c.given.ensures _ c.bad_actor.ensures))

pub returns-then-not-names_an_actor-clause-shows : goal.returns-then-not-names_an_actor-clause-shows
returns-then-not-names_an_actor-clause-shows g c = λ count is. not_exhausted _ c.given.result count (c.given.ensures _ c.bad_actor.ensures) is

pub returns-then-not-names_an_actor-clause-status : goal.returns-then-not-names_an_actor-clause-status
returns-then-not-names_an_actor-clause-status g c = fine_given _ c.given.result (omega arith, omega arith) (c.given.ensures _ c.bad_actor.ensures)

pub returns-in-Ok-clause-does : goal.returns-in-Ok-clause-does
returns-in-Ok-clause-does g c = λ words. does_as _ _ _ _ _ _ (λ events at. called (is_named c.names_an_actor.result _ c.names_an_actor.ensures c.if-not-names_an_actor.false)
    (subst (λ (name : List ℕ). AtTurns c.args.shared.now.config c.args.request.now name events c.in_turn.result) c.in-Ok.ensures at)) (c.in_turn.ensures.does words)

pub returns-in-Err-clause-does : goal.returns-in-Err-clause-does
returns-in-Err-clause-does g c = λ words. does_nothing _ _ _ _ (lacks (is_named c.names_an_actor.result _ c.names_an_actor.ensures c.if-not-names_an_actor.false) (refl, refl))
