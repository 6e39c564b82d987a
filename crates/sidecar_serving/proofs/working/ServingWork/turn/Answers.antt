use Rattle.std.proofs.Common.{◌∙◌, ap, refl, sym}
use Rattle.sidecar_objects.specs.Composed.{pass_stays}
use Rattle.sidecar_workers.specs.Works.{exit_of_turned}
use Rattle.sidecar_serving.proofs.Doings.{turned_on}
use Rattle.sidecar_serving.proofs.Passes.{own_pass, pass_owned}
use Rattle.sidecar_serving.proofs.working.ServingWork.turn.Goals as goal

pub idle_turn-turn-requires : goal.idle_turn-turn-requires
idle_turn-turn-requires g c = record { pass = pass_owned _ _ c.args.self.now.of }

pub invariant_of-self : goal.invariant_of-self
invariant_of-self g c = record { of = own_pass _ _ (pass_stays _ _ _ _ _ c.idle_turn-turn.ensures.does.went (pass_owned _ _ c.args.self.now.of)) }

pub invariant_of-self-then-did_something : goal.invariant_of-self-then-did_something
invariant_of-self-then-did_something g c = record { of = own_pass _ _ (pass_stays _ _ _ _ _ c.idle_turn-turn.ensures.does.went (pass_owned _ _ c.args.self.now.of)) }

pub invariant_of-self-in-Turn : goal.invariant_of-self-in-Turn
invariant_of-self-in-Turn g c = record { of = own_pass _ _ (pass_stays _ _ _ _ _ c.idle_turn-turn.ensures.does.went (pass_owned _ _ c.args.self.now.of)) }

pub returns-then-did_something-clause-kept : goal.returns-then-did_something-clause-kept
returns-then-did_something-clause-kept g c = (refl, λ start done. rw c.wake.ensures.told (turned_on _ _ _ _ _ start _ _ _ _ _ _ c.idle_turn-turn.result _ (sym c.take.ensures.taken ∙ c.in-Turn.is) c.take.ensures.left (c.after_turn-self.ensures ∙ ap exit_of_turned c.turned_of-turned.ensures) c.idle_turn-turn.ensures.does c.idle_turn-turn.ensures.shows done))

pub returns-clause-kept : goal.returns-clause-kept
returns-clause-kept g c = (refl, λ start done. rw c.due.ensures.told (turned_on _ _ _ _ _ start _ _ _ _ _ _ c.idle_turn-turn.result _ (sym c.take.ensures.taken ∙ c.in-Turn.is) c.take.ensures.left (c.after_turn-self.ensures ∙ ap exit_of_turned c.turned_of-turned.ensures) c.idle_turn-turn.ensures.does c.idle_turn-turn.ensures.shows done))

pub returns-then-is_some-clause-kept : goal.returns-then-is_some-clause-kept
returns-then-is_some-clause-kept g c = (refl, λ start done. rw c.leave.ensures.told (turned_on _ _ _ _ _ start _ _ _ _ _ _ c.idle_turn-turn.result _ (sym c.take.ensures.taken ∙ c.in-Turn.is) c.take.ensures.left (c.after_turn-self.ensures ∙ ap exit_of_turned c.turned_of-turned.ensures) c.idle_turn-turn.ensures.does c.idle_turn-turn.ensures.shows done))
