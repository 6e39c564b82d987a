use Rattle.session_laws.proofs.Accounted.{each_accounts, taken_into_account}
use Rattle.session_laws.proofs.Seen.{stand_in_histories}
use Rattle.session_laws.proofs.messages.each_message_is_accounted_for.Goals as goal

pub returns-clause-ledgers : goal.returns-clause-ledgers
returns-clause-ledgers g c = each_accounts _ c.each_delivery_has_one_status.ensures.accepted c.each_delivery_has_one_status.ensures.messages c.counts_are_all_deliveries.ensures

pub returns-clause-published : goal.returns-clause-published
returns-clause-published g c cells pubsub topic served is =
    taken_into_account _ cells pubsub topic served (each_accounts _ c.each_delivery_has_one_status.ensures.accepted c.each_delivery_has_one_status.ensures.messages c.counts_are_all_deliveries.ensures) (stand_in_histories _ cells served is.did)
