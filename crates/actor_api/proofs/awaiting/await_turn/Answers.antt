use Rattle.std.proofs.Common.{arith}
use Rattle.policy_run.specs.Effects.{clocked}
use Rattle.std.specs.Prelude.{None}
use Rattle.link_call.specs.LinkAt.{LinkAt}
use Rattle.actor_turns.specs.contracts.turns.TurnsObject.TheImpl.{ghosts}
use Rattle.actor_api.specs.Calling.{Looks}
use Rattle.actor_api.specs.declared.awaiting.Looked.TheVariants.{Behind}
use Rattle.actor_api.proofs.Going.{stays}
use Rattle.actor_api.proofs.Waiting.{over, tired, unwaited, waited_on}
use Rattle.actor_api.proofs.awaiting.await_turn.Goals as goal

-- steps of the turns need no link
unseen_link : LinkAt
unseen_link = record { calls = None; faults = 0; expiries = 0 }

pub loop-looks-init : goal.loop-looks-init
loop-looks-init g c = record { seat = c.requires; so_far = λ link. unwaited ghosts c.args.cell.now (record { seat = c.args.seat.now; link = link; clock = clocked g.C.Clock c.args.clock.now }) c.args.ticket }

pub returns-in-Over-clause-waits : goal.returns-in-Over-clause-waits
returns-in-Over-clause-waits g c link =
    over ghosts c.args.cell.now (record { seat = c.args.seat.now; link = link; clock = clocked g.C.Clock c.args.clock.now }) (record { seat = c.loop-looks.seat; link = link; clock = clocked g.C.Clock c.loop-looks.clock }) (record { seat = c.look.new.seat; link = link; clock = clocked g.C.Clock c.look.new.clock })
    c.args.ticket c.loop-looks._looks c.loop-looks.last (c.loop-looks.invariant.so_far link) c.in-Over.how (omega (arith, c.loop-looks-test.true)) (c.in-Over.ensures.looks link)

pub loop-looks-preserved : goal.loop-looks-preserved
loop-looks-preserved g c = record {
  seat = stays ghosts c.args.cell.now (record { seat = c.loop-looks.seat; link = unseen_link; clock = clocked g.C.Clock c.loop-looks.clock }) (record { seat = c.look.new.seat; link = unseen_link; clock = clocked g.C.Clock c.look.new.clock })
      (Looks c.args.ticket (Behind c.in-Behind.ahead)) (c.in-Behind.ensures.looks unseen_link) c.loop-looks.invariant.seat;
  so_far = λ link. waited_on ghosts c.args.cell.now (record { seat = c.args.seat.now; link = link; clock = clocked g.C.Clock c.args.clock.now }) (record { seat = c.loop-looks.seat; link = link; clock = clocked g.C.Clock c.loop-looks.clock }) (record { seat = c.look.new.seat; link = link; clock = clocked g.C.Clock c.look.new.clock })
      c.args.ticket c.loop-looks._looks c.loop-looks.last (c.loop-looks.invariant.so_far link) c.in-Behind.ahead (c.in-Behind.ensures.looks link);
}

pub returns-clause-waits : goal.returns-clause-waits
returns-clause-waits g c link =
    tired ghosts c.args.cell.now (record { seat = c.args.seat.now; link = link; clock = clocked g.C.Clock c.args.clock.now }) (record { seat = c.loop-looks.seat; link = link; clock = clocked g.C.Clock c.loop-looks.clock }) (record { seat = c.loop-looks.seat; link = link; clock = clocked g.C.Clock c.loop-looks.clock })
    c.args.ticket c.loop-looks._looks c.loop-looks.last (c.loop-looks.invariant.so_far link) (omega (arith, c.loop-looks-test.false))
