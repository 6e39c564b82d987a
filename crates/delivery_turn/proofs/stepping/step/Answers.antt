use Rattle.delivery_turn.proofs.Stepped.{steps_by}
use Rattle.delivery_turn.proofs.stepping.step.Goals as goal

pub returns : goal.returns
returns g c = steps_by _ c.args.cell.now c.args.seat.now c.call.new.seat c.args.cmd.now (c.replies_fit_their_commands.ensures _) (c.what_is_taken_has_a_plan.ensures _) c.call.result c.call.ensures.ok c.call.ensures.err
