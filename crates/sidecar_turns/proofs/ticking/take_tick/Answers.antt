use Rattle.std.proofs.Common.{◌∙◌, sym}
use Rattle.policy_run.specs.Effects.{clocked}
use Rattle.cron_ticks.specs.contracts.ticks.TicksObject.TheImpl.{ghosts}
use Rattle.cron_ticks.specs.declared.command.TicksCmd.TheVariants.{Take}
use Rattle.turn_cell.specs.Sitting.{IsSeatOf}
use Rattle.sidecar_objects.specs.Kind.{ticks}
use Rattle.sidecar_objects.proofs.Single.{the_seat}
use Rattle.sidecar_turns.proofs.Ticked.{is_there, stepped_so, unspent, unstepped}
use Rattle.sidecar_turns.proofs.ticking.take_tick.Goals as goal

pub call-requires-clause-seat : goal.call-requires-clause-seat
call-requires-clause-seat g c = the_seat c.args.objects.now.ticks c.args.pass.now.ticks IsSeatOf (c.requires.pass.each ticks)

pub returns-in-Ok-clause-does : goal.returns-in-Ok-clause-does
returns-in-Ok-clause-does g c = λ link words. stepped_so _ _ _ (clocked g.C.Clock c.args.clock.now) (clocked g.C.Clock c.now-now.new.self) link words c.call.new.seat c.now-now.result
    (record { later = c.now-now.ensures.later; last = c.now-now.ensures.last; paused = c.now-now.ensures.paused; ticks = c.now-now.ensures.ticks }) c.in-Ok.reply c.taking_of.result c.in-Ok.ensures.ok c.taking_of.ensures

pub returns-in-Ok-clause-there : goal.returns-in-Ok-clause-there
returns-in-Ok-clause-there g c = λ place is. is_there ghosts c.args.objects.now.ticks.first (λ history entry step. step) c.args.pass.now.ticks c.call.new.seat (Take c.now-now.result) c.in-Ok.reply c.in-Ok.ensures.ok place (sym c.taking_of.ensures ∙ is)

pub returns-in-Ok-clause-shows : goal.returns-in-Ok-clause-shows
returns-in-Ok-clause-shows g c = λ count is. absurd (unspent c.in-Ok.reply count (sym c.taking_of.ensures ∙ is))

pub returns-in-Err-clause-does : goal.returns-in-Err-clause-does
returns-in-Err-clause-does g c = λ link words. unstepped _ _ _ (clocked g.C.Clock c.args.clock.now) (clocked g.C.Clock c.now-now.new.self) link words c.call.new.seat c.now-now.result
    (record { later = c.now-now.ensures.later; last = c.now-now.ensures.last; paused = c.now-now.ensures.paused; ticks = c.now-now.ensures.ticks }) c.in-Err.field-0 c.in-Err.ensures.err
