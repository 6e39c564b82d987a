use Rattle.std.proofs.Common.{map, refl}
use Rattle.sidecar_objects.specs.Kind.{turns}
use Rattle.sidecar_objects.specs.Doing.{laid}
use Rattle.sidecar_objects.proofs.Single.{the_seat}
use Rattle.sidecar_core.specs.Actors.{does_own}
use Rattle.sidecar_core.proofs.InTurn.{did_in_turn, fine_invoked}
use Rattle.sidecar_core.proofs.actor_request.in_turn.Goals as goal

pub invoke-requires-clause-seat : goal.invoke-requires-clause-seat
invoke-requires-clause-seat g c = the_seat c.args.shared.now.objects.turns c.args.pass.now.turns _ (c.requires.pass.each turns)

pub returns-clause-does : goal.returns-clause-does
returns-clause-does g c = λ words. let r = c.invoke.ensures.invokes in record {
  events = map (laid does_own 0) r.0;
  held = record { course = r.0; invokes = r.1; whole = refl };
  went = did_in_turn _ _ _ c.invoke.new.seat _ _ _ _ words r.0 r.2;
}

pub returns-clause-status : goal.returns-clause-status
returns-clause-status g c = let r = c.invoke.ensures.invokes in fine_invoked c.args.shared.now.config.app_port c.args.request.now c.args.actor.now r.0 c.invoke.result r.1 r.2.owned.calls.replies
