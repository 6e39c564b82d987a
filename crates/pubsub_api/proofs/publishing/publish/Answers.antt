use Rattle.std.proofs.Common.{sym, subst}
use Rattle.ledger_core.specs.Aims.{IsGiven}
use Rattle.pubsub_api.proofs.Accepting.{refusal_status, refusal_unspent}
use Rattle.pubsub_api.proofs.Published.{prepared_accepts, published, unpublished}
use Rattle.pubsub_api.proofs.publishing.publish.Goals as goal

pub accept-requires-clause-given : goal.accept-requires-clause-given
accept-requires-clause-given g c = subst (λ count. IsGiven count c.in-Ok.cmd) (sym c.requires.plans) c.in-Ok.ensures.given

pub accept-requires-clause-accept : goal.accept-requires-clause-accept
accept-requires-clause-accept g c = let made = c.in-Ok.ensures.prepares in prepared_accepts c.args.what.now made.0 c.in-Ok.cmd made.1

pub returns-in-Ok-clause-publishes : goal.returns-in-Ok-clause-publishes
returns-in-Ok-clause-publishes g c = published _ c.args.cell.now c.args.seat.now c.accept.new.seat _ c.args.what.now c.accept.result _ _ c.in-Ok.cmd c.in-Ok.ensures.prepares c.accept.ensures.accepts

pub returns-in-Err-clause-publishes : goal.returns-in-Err-clause-publishes
returns-in-Err-clause-publishes g c = unpublished _ c.args.cell.now c.args.seat.now _ c.args.what.now c.refused.result _ _ c.in-Err.error c.in-Err.ensures.prepares c.refused.ensures

pub returns-in-Err-clause-shows : goal.returns-in-Err-clause-shows
returns-in-Err-clause-shows g c count spent = absurd (refusal_unspent c.args.what.now.topic.now c.in-Err.error c.refused.result count c.refused.ensures spent)

pub returns-in-Err-clause-status : goal.returns-in-Err-clause-status
returns-in-Err-clause-status g c = refusal_status c.args.what.now.topic.now c.in-Err.error c.refused.result c.refused.ensures
