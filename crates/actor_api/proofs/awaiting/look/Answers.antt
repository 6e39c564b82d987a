use Rattle.policy_run.specs.Effects.{clocked}
use Rattle.actor_turns.specs.contracts.turns.TurnsObject.TheImpl.{ghosts}
use Rattle.actor_api.proofs.Waiting.{behind, lost, yours}
use Rattle.actor_api.proofs.awaiting.look.Goals as goal

pub returns-in-Ok-Behind-clause-looks : goal.returns-in-Ok-Behind-clause-looks
returns-in-Ok-Behind-clause-looks g c link =
    behind ghosts c.args.cell.now c.args.seat.now c.ask.new.seat (clocked g.C.Clock c.args.clock.now) c.args.ticket c.in-Ok-Behind.field-0 c.in-Ok-Behind.ensures link c.in-Ok-Behind.ahead (clocked g.C.Clock c.pause.new.self) c.in-Ok-Behind.field-0-is
    (record { later = c.pause.ensures.later; paused = c.pause.ensures.paused; ticks = c.pause.ensures.ticks })

pub returns-in-Ok-Yours-clause-looks : goal.returns-in-Ok-Yours-clause-looks
returns-in-Ok-Yours-clause-looks g c link = yours ghosts c.args.cell.now c.args.seat.now c.ask.new.seat (clocked g.C.Clock c.args.clock.now) c.args.ticket c.in-Ok-Yours.field-0 c.in-Ok-Yours.ensures link c.in-Ok-Yours.field-0-is

pub returns-in-Ok-NotOpen-clause-looks : goal.returns-in-Ok-NotOpen-clause-looks
returns-in-Ok-NotOpen-clause-looks g c link = lost ghosts c.args.cell.now c.args.seat.now c.ask.new.seat (clocked g.C.Clock c.args.clock.now) c.args.ticket c.in-Ok-NotOpen.field-0 c.in-Ok-NotOpen.ensures link c.in-Ok-NotOpen.field-0-is
