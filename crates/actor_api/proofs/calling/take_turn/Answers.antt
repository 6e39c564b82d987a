use Rattle.policy_run.specs.Effects.{clocked}
use Rattle.link_call.specs.LinkAt.{link_at}
use Rattle.actor_turns.specs.contracts.turns.TurnsObject.TheImpl.{ghosts}
use Rattle.actor_api.specs.Calling.{Awaits}
use Rattle.actor_api.proofs.Going.{stays}
use Rattle.actor_api.proofs.Taken.{turn_taken}
use Rattle.actor_api.proofs.calling.take_turn.Goals as goal

pub finish-requires : goal.finish-requires
finish-requires g c =
    stays ghosts c.args.cell.now (record { seat = c.args.seat.now; link = link_at g.L.Link c.args.link.now; clock = clocked g.C.Clock c.args.clock.now }) (record { seat = c.await_turn-how.new.seat; link = link_at g.L.Link c.args.link.now; clock = clocked g.C.Clock c.await_turn-how.new.clock })
    (Awaits c.args.ticket c.await_turn-how.result) (c.await_turn-how.ensures.waits (link_at g.L.Link c.args.link.now)) c.requires

pub returns-clause-takes : goal.returns-clause-takes
returns-clause-takes g c =
    turn_taken ghosts c.args.cell.now (record { seat = c.args.seat.now; link = link_at g.L.Link c.args.link.now; clock = clocked g.C.Clock c.args.clock.now }) (record { seat = c.await_turn-how.new.seat; link = link_at g.L.Link c.args.link.now; clock = clocked g.C.Clock c.await_turn-how.new.clock })
    (record { seat = c.finish.new.seat; link = link_at g.L.Link c.finish.new.link; clock = clocked g.C.Clock c.await_turn-how.new.clock }) c.args.asked.now c.args.ticket c.await_turn-how.result c.finish.result
    (c.await_turn-how.ensures.waits (link_at g.L.Link c.args.link.now)) (c.finish.ensures.finishes (clocked g.C.Clock c.await_turn-how.new.clock))
