use Rattle.std.proofs.Common.{◌++◌, codes, decimal, refl}
use Rattle.link_call.specs.LinkAt.{link_at}
use Rattle.actor_turns.specs.contracts.turns.TurnsObject.TheImpl.{ghosts}
use Rattle.actor_api.specs.Calling.{not_invoked}
use Rattle.actor_api.proofs.Taken.{called_left, called_unleft, lost_so, not_spent, tired_left, tired_unleft, unseen_so}
use Rattle.actor_api.proofs.taking.finish.Goals as goal

pub returns-in-Ok-clause-finishes : goal.returns-in-Ok-clause-finishes
returns-in-Ok-clause-finishes g c clock =
    called_left ghosts c.args.cell.now c.args.asked.now c.args.ticket c.args.seat.now c.ask.new.seat clock c.args.how c.replied.result (link_at g.L.Link c.args.link.now) (link_at g.L.Link c.call-answer.new.self) c.call-answer.result c.in-Yours.is
    (record { told = c.call-answer.ensures.calls; faults = c.call-answer.ensures.faults; no_fewer = c.call-answer.ensures.no_fewer; expiries = c.call-answer.ensures.expiries; no_fewer_expiries = c.call-answer.ensures.no_fewer_expiries; reply = c.call-answer.ensures.reply })
    c.in-Ok.field-0 c.in-Ok.ensures c.replied.ensures

pub returns-in-Yours-clause-finishes : goal.returns-in-Yours-clause-finishes
returns-in-Yours-clause-finishes g c clock =
    called_unleft ghosts c.args.cell.now c.args.asked.now c.args.ticket c.args.seat.now c.ask.new.seat clock c.args.how _ (link_at g.L.Link c.args.link.now) (link_at g.L.Link c.call-answer.new.self) c.call-answer.result c.in-Yours.is
    (record { told = c.call-answer.ensures.calls; faults = c.call-answer.ensures.faults; no_fewer = c.call-answer.ensures.no_fewer; expiries = c.call-answer.ensures.expiries; no_fewer_expiries = c.call-answer.ensures.no_fewer_expiries; reply = c.call-answer.ensures.reply })
    c.in-Err.field-0.count c.in-Err.ensures.1 refl

pub returns-in-Ok-ask-clause-finishes : goal.returns-in-Ok-ask-clause-finishes
returns-in-Ok-ask-clause-finishes g c clock =
    tired_left ghosts c.args.cell.now c.args.asked.now c.args.ticket c.args.seat.now c.ask-in-Behind.new.seat clock c.args.how c.given.result (link_at g.L.Link c.args.link.now) c.in-Behind.ahead c.in-Behind.is c.in-Ok-ask.field-0 c.in-Ok-ask.ensures
    (c.given.ensures (not_invoked (codes "waits behind " ++ decimal c.in-Behind.ahead)) c.not_invoked_by.ensures)

pub returns-in-Ok-ask-clause-shows : goal.returns-in-Ok-ask-clause-shows
returns-in-Ok-ask-clause-shows g c count ended same =
    absurd (not_spent (not_invoked (codes "waits behind " ++ decimal c.in-Behind.ahead)) c.given.result count (c.given.ensures (not_invoked (codes "waits behind " ++ decimal c.in-Behind.ahead)) c.not_invoked_by.ensures) ended)

pub returns-in-Behind-clause-finishes : goal.returns-in-Behind-clause-finishes
returns-in-Behind-clause-finishes g c clock =
    tired_unleft ghosts c.args.cell.now c.args.asked.now c.args.ticket c.args.seat.now c.ask-in-Behind.new.seat clock c.args.how _ (link_at g.L.Link c.args.link.now) c.in-Behind.ahead c.in-Behind.is c.in-Err-ask.field-0.count c.in-Err-ask.ensures.1 refl

pub returns-in-Lost-clause-finishes : goal.returns-in-Lost-clause-finishes
returns-in-Lost-clause-finishes g c clock =
    lost_so ghosts c.args.cell.now c.args.asked.now c.args.ticket (record { seat = c.args.seat.now; link = link_at g.L.Link c.args.link.now; clock = clock }) c.args.how c.given-in-Lost.result c.in-Lost.is (c.given-in-Lost.ensures (not_invoked (codes "turn lost")) c.not_invoked.ensures)

pub returns-in-Lost-clause-shows : goal.returns-in-Lost-clause-shows
returns-in-Lost-clause-shows g c count ended same = absurd (not_spent (not_invoked (codes "turn lost")) c.given-in-Lost.result count (c.given-in-Lost.ensures (not_invoked (codes "turn lost")) c.not_invoked.ensures) ended)

pub returns-clause-finishes : goal.returns-clause-finishes
returns-clause-finishes g c clock =
    unseen_so ghosts c.args.cell.now c.args.asked.now c.args.ticket (record { seat = c.args.seat.now; link = link_at g.L.Link c.args.link.now; clock = clock }) c.args.how _ c.in-Exhausted.count c.in-Exhausted.is refl
