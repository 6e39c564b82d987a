use Rattle.state_api.proofs.Attempted.{stepped_as, unstepped_as}
use Rattle.state_api.proofs.call.StoreCallOperation.attempt.Goals as goal

pub returns-in-Ok-clause-made : goal.returns-in-Ok-clause-made
returns-in-Ok-clause-made g c = stepped_as _ c.args.self.now.cell.now c.args.self.now.seat.ghost_name c.args.self.now.cmd.ghost_name c.args.self.now.seat.now c.call.new.seat c.args.self.now.cmd.now c.now.result _ _ (record { later = c.now.ensures.later; last = c.now.ensures.last; paused = c.now.ensures.paused; ticks = c.now.ensures.ticks }) c.set_now.new.self c.in-Ok.reply c.answer_of.result c.set_now.ensures.moved c.answer_of.ensures c.in-Ok.ensures.ok (c.replies_fit.ensures _)

pub returns-in-Err-clause-made : goal.returns-in-Err-clause-made
returns-in-Err-clause-made g c = unstepped_as _ c.args.self.now.cell.now c.args.self.now.seat.ghost_name c.args.self.now.cmd.ghost_name c.args.self.now.seat.now c.call.new.seat c.args.self.now.cmd.now c.now.result _ _ (record { later = c.now.ensures.later; last = c.now.ensures.last; paused = c.now.ensures.paused; ticks = c.now.ensures.ticks }) c.set_now.new.self c.in-Err.field-0.count c.set_now.ensures.moved c.in-Err.ensures.err
