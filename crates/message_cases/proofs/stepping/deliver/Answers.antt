use Rattle.turn_cell.proofs.Growing.{still_of}
use Rattle.message_cases.proofs.stepping.deliver.Goals as goal

pub returns-clause-seat : goal.returns-clause-seat
returns-clause-seat g c = still_of _ c.args.cell.now c.args.seat.now _ c.turn.new.seat c.turn.ensures.delivers.2.owned.steps c.requires.seat

pub returns-clause-guard : goal.returns-clause-guard
returns-clause-guard g c = g.met.G.Guard.stays _ _ _ c.requires.guard c.turn.ensures.delivers.2.guards
