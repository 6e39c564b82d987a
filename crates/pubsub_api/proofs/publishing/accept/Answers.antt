use Rattle.std.proofs.Common.{subst}
use Rattle.pubsub_api.specs.Publishing.{IsAcceptReply}
use Rattle.pubsub_api.proofs.Accepting.{accept_reply, accept_status, accept_unspent, accepted_by, unaccepted_by}
use Rattle.pubsub_api.proofs.publishing.accept.Goals as goal

pub accepted-requires : goal.accepted-requires
accepted-requires g c = let did = c.in-Ok.ensures in subst IsAcceptReply did.1 (accept_reply c.args.cmd.now did.0.reply c.requires.accept did.2.fits)

pub returns-in-Ok-clause-accepts : goal.returns-in-Ok-clause-accepts
returns-in-Ok-clause-accepts g c = accepted_by _ c.args.cell.now c.args.seat.now c.step.new.seat c.args.cmd.now c.in-Ok.reply c.accepted.result c.in-Ok.ensures c.accepted.ensures

pub returns-in-Ok-clause-shows : goal.returns-in-Ok-clause-shows
returns-in-Ok-clause-shows g c count spent = absurd (accept_unspent c.in-Ok.reply c.accepted.result count c.accepted.ensures spent)

pub returns-in-Ok-clause-status : goal.returns-in-Ok-clause-status
returns-in-Ok-clause-status g c = accept_status c.in-Ok.reply c.accepted.result c.accepted.ensures

pub returns-in-Err-clause-accepts : goal.returns-in-Err-clause-accepts
returns-in-Err-clause-accepts g c = unaccepted_by _ c.args.cell.now c.args.seat.now c.step.new.seat c.args.cmd.now c.in-Err.field-0 c.in-Err.ensures
