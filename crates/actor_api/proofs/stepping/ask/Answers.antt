use Rattle.actor_api.proofs.Stepped.{steps_by}
use Rattle.actor_api.proofs.stepping.ask.Goals as goal

pub returns : goal.returns
returns g c = steps_by _ c.args.cell.now c.args.seat.now c.call.new.seat c.args.cmd.now (λ history legal before after entry is. (legal.each before after entry is).1) c.call.result c.call.ensures.ok c.call.ensures.err
