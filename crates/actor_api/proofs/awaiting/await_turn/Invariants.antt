use Rattle.turn_cell.specs.Sitting.{IsSeatOf}
use Rattle.policy_run.specs.Effects.{clocked}
use Rattle.link_call.specs.LinkAt.{LinkAt}
use Rattle.actor_turns.specs.contracts.turns.TurnsObject.TheImpl.{ghosts}
use Rattle.actor_api.specs.Stepping.{Does}
use Rattle.actor_api.specs.Calling.{Waited}
use Rattle.actor_api.proofs.awaiting.await_turn.Given as goal

abbrev pub invariant-loop-looks : goal.invariant-loop-looks
invariant-loop-looks g l = record {
  seat : IsSeatOf l.cell l.seat;
  so_far : (link : LinkAt) → Does ghosts l.cell (record { seat = l.fn.seat; link = link; clock = clocked g.C.Clock l.fn.clock }) (record { seat = l.seat; link = link; clock = clocked g.C.Clock l.clock }) (Waited l.ticket l._looks l.last);
}
