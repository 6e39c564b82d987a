use Rattle.turn_cell.proofs.Growing.{still_of}
use Rattle.call_cases.proofs.actors.invoke.Goals as goal

pub returns : goal.returns
returns g c = still_of _ c.args.cell.now c.args.seat.now _ c.invoke.new.seat c.invoke.ensures.invokes.2.owned.steps c.requires.seat
