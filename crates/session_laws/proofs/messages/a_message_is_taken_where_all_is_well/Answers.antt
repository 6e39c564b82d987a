use Rattle.session_laws.proofs.Publishing.{well_answered}
use Rattle.session_laws.proofs.messages.a_message_is_taken_where_all_is_well.Goals as goal

pub returns : goal.returns
returns g c cells pubsub topic served is = well_answered _ cells pubsub topic served is
