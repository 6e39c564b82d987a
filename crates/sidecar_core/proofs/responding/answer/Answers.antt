use Rattle.std.proofs.Common.{Ok, refl, subst}
use Rattle.policy_run.specs.Effects.{clocked}
use Rattle.link_call.specs.LinkAt.{link_at}
use Rattle.sidecar_objects.specs.Composed.{does_nothing, does_as}
use Rattle.sidecar_core.specs.Exchange.{SetsNote}
use Rattle.sidecar_core.proofs.Answering.{actors_answered, actors_show, done_answered, has_actor, names_store, state_answered}
use Rattle.sidecar_core.proofs.Statuses.{fine_at_actor, fine_at_list, fine_at_set, fine_at_store}
use Rattle.sidecar_core.proofs.responding.answer.Goals as goal

pub returns-in-Publish-clause-does : goal.returns-in-Publish-clause-does
returns-in-Publish-clause-does g c = does_as _ _ _ _ _ _ (λ events at. rw c.in-Publish.is at) (c.at_broker.ensures.does (link_at g.L.Link c.args.link.now))

pub returns-in-Binding-clause-does : goal.returns-in-Binding-clause-does
returns-in-Binding-clause-does g c = does_as _ _ _ _ _ _ (λ events at. rw c.in-Binding.is at) c.at_binding.ensures.does

pub returns-in-Metadata-clause-does : goal.returns-in-Metadata-clause-does
returns-in-Metadata-clause-does g c = does_as _ _ _ _ _ _ (λ events at. rw c.in-Metadata.is at) (c.list.ensures.does (clocked g.C.Clock c.args.clock.now) (link_at g.L.Link c.args.link.now) (g.R.Rng.stream c.args.rng.now))

pub returns-in-Metadata-clause-status : goal.returns-in-Metadata-clause-status
returns-in-Metadata-clause-status g c = let d = c.list.ensures.does (clocked g.C.Clock c.args.clock.now) (link_at g.L.Link c.args.link.now) (g.R.Rng.stream c.args.rng.now) in fine_at_list c.args.shared.now.config d.events c.list.result d.held

pub returns-in-SetMetadata-clause-does : goal.returns-in-SetMetadata-clause-does
returns-in-SetMetadata-clause-does g c = does_as _ _ _ _ _ _ (λ events at. rw c.in-SetMetadata.is (subst (λ v. SetsNote c.in-SetMetadata.name v events c.put.result) c.bytes.ensures at))
    (c.put.ensures.does (clocked g.C.Clock c.args.clock.now) (link_at g.L.Link c.args.link.now) (g.R.Rng.stream c.args.rng.now))

pub returns-in-SetMetadata-clause-status : goal.returns-in-SetMetadata-clause-status
returns-in-SetMetadata-clause-status g c = let d = c.put.ensures.does (clocked g.C.Clock c.args.clock.now) (link_at g.L.Link c.args.link.now) (g.R.Rng.stream c.args.rng.now) in fine_at_set _ _ d.events c.put.result d.held

pub at_actor-requires-clause-target : goal.at_actor-requires-clause-target
at_actor-requires-clause-target g c = c.requires.target c.in-ActorCall.kind c.in-ActorCall.id c.in-ActorCall.is

pub returns-in-ActorCall-clause-does : goal.returns-in-ActorCall-clause-does
returns-in-ActorCall-clause-does g c = does_as _ _ _ _ _ _ (λ events at. rw c.in-ActorCall.is at) (c.at_actor.ensures.does (g.R.Rng.stream c.args.rng.now))

pub at_actor_state-requires-clause-state : goal.at_actor_state-requires-clause-state
at_actor_state-requires-clause-state g c = has_actor c.args.route.now c.in-ActorGet.kind c.in-ActorGet.id c.in-ActorGet.is

pub returns-in-ActorGet-clause-does : goal.returns-in-ActorGet-clause-does
returns-in-ActorGet-clause-does g c = does_as _ _ _ _ _ _
    (λ events at. actors_answered c.args.shared.now.config c.args.request.now events c.at_actor_state.result c.args.route.now c.in-ActorGet.kind c.in-ActorGet.id c.in-ActorGet.is at) (c.at_actor_state.ensures.does (link_at g.L.Link c.args.link.now))

pub returns-in-ActorGet-clause-shows : goal.returns-in-ActorGet-clause-shows
returns-in-ActorGet-clause-shows g c = λ count is. actors_show _ _ count c.args.route.now c.in-ActorGet.kind c.in-ActorGet.id c.in-ActorGet.is (c.at_actor_state.ensures.shows count is)

pub returns-in-ActorGet-clause-status : goal.returns-in-ActorGet-clause-status
returns-in-ActorGet-clause-status g c = let d = c.at_actor_state.ensures.does (link_at g.L.Link c.args.link.now) in fine_at_actor c.args.shared.now.config c.args.request.now c.args.route.now c.in-ActorGet.kind c.in-ActorGet.id d.events c.at_actor_state.result d.held

pub returns-in-Health-clause-does : goal.returns-in-Health-clause-does
returns-in-Health-clause-does g c = does_nothing _ _ _ _ (done_answered c.args.shared.now.config c.args.request.now _ _ c.args.route.now c.in-Health.is (refl, λ i. Ok (c.health.ensures i)))

pub returns-in-Save-clause-does : goal.returns-in-Save-clause-does
returns-in-Save-clause-does g c = does_as _ _ _ _ _ _
    (λ events at. state_answered c.args.shared.now.config c.args.request.now events c.at_store.result c.args.route.now c.in-Save.store (names_store c.args.route.now c.in-Save.store c.in-Save.is) at) (c.at_store.ensures.does (link_at g.L.Link c.args.link.now))

pub returns-in-Save-clause-status : goal.returns-in-Save-clause-status
returns-in-Save-clause-status g c = let d = c.at_store.ensures.does (link_at g.L.Link c.args.link.now) in fine_at_store c.args.shared.now.config c.args.request.now c.args.route.now c.in-Save.store d.events c.at_store.result d.held
