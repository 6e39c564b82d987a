use Rattle.std.proofs.Common.{◌++◌, codes, decimal, refl}
use Rattle.policy_run.specs.Effects.{clocked}
use Rattle.link_call.specs.LinkAt.{link_at}
use Rattle.actor_turns.specs.contracts.turns.TurnsObject.TheImpl.{ghosts}
use Rattle.actor_api.specs.Calling.{not_invoked}
use Rattle.actor_api.proofs.Taken.{exhausted_so, full_so, joined_so, not_spent, unjoined_so}
use Rattle.actor_api.proofs.calling.join.Goals as goal

pub returns-in-Ok-Joined-clause-joins : goal.returns-in-Ok-Joined-clause-joins
returns-in-Ok-Joined-clause-joins g c =
    joined_so ghosts c.args.cell.now c.args.asked.now c.args.actor.now c.take_turn.result c.args.seat.now c.ask.new.seat (link_at g.L.Link c.args.link.now) (clocked g.C.Clock c.args.clock.now) c.in-Ok.name c.in-Ok.ensures
    c.in-Ok-Joined.field-0 c.in-Ok-Joined.ensures c.in-Ok-Joined.ticket (record { seat = c.take_turn.new.seat; link = link_at g.L.Link c.take_turn.new.link; clock = clocked g.C.Clock c.take_turn.new.clock }) c.in-Ok-Joined.field-0-is c.take_turn.ensures.takes

pub returns-in-Ok-Full-clause-joins : goal.returns-in-Ok-Full-clause-joins
returns-in-Ok-Full-clause-joins g c =
    full_so ghosts c.args.cell.now c.args.asked.now c.args.actor.now c.given.result c.args.seat.now c.ask.new.seat (link_at g.L.Link c.args.link.now) (clocked g.C.Clock c.args.clock.now) c.in-Ok.name c.in-Ok.ensures
    c.in-Ok-Full.field-0 c.in-Ok-Full.ensures c.in-Ok-Full.waiting c.in-Ok-Full.field-0-is (c.given.ensures (not_invoked (codes "full at " ++ decimal c.in-Ok-Full.waiting)) c.not_invoked_by.ensures)

pub returns-in-Ok-Full-clause-shows : goal.returns-in-Ok-Full-clause-shows
returns-in-Ok-Full-clause-shows g c count ended =
    absurd (not_spent (not_invoked (codes "full at " ++ decimal c.in-Ok-Full.waiting)) c.given.result count (c.given.ensures (not_invoked (codes "full at " ++ decimal c.in-Ok-Full.waiting)) c.not_invoked_by.ensures) ended)

pub returns-in-Ok-NoMemory-clause-joins : goal.returns-in-Ok-NoMemory-clause-joins
returns-in-Ok-NoMemory-clause-joins g c =
    unjoined_so ghosts c.args.cell.now c.args.asked.now c.args.actor.now _ c.args.seat.now c.ask.new.seat (link_at g.L.Link c.args.link.now) (clocked g.C.Clock c.args.clock.now) c.in-Ok.name c.in-Ok.ensures
    c.in-Ok-NoMemory.field-0 c.in-Ok-NoMemory.ensures c.in-Ok-NoMemory.field-0-is refl

pub returns-clause-joins : goal.returns-clause-joins
returns-clause-joins g c =
    exhausted_so ghosts c.args.cell.now c.args.asked.now c.args.actor.now _ c.args.seat.now c.ask.new.seat (link_at g.L.Link c.args.link.now) (clocked g.C.Clock c.args.clock.now) c.in-Ok.name c.in-Ok.ensures
    c.in-Err.field-0.count c.in-Err.ensures.1 refl
