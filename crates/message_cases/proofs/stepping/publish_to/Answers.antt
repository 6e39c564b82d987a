use Rattle.turn_cell.proofs.Growing.{still_of}
use Rattle.message_cases.proofs.stepping.publish_to.Goals as goal

pub returns : goal.returns
returns g c = still_of _ c.args.cell.now c.args.seat.now _ c.publish.new.seat c.publish.ensures.publishes.2.owned c.requires.seat
