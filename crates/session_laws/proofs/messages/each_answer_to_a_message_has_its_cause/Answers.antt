use Rattle.session_laws.proofs.Publishing.{message_answered}
use Rattle.session_laws.proofs.messages.each_answer_to_a_message_has_its_cause.Goals as goal

pub returns : goal.returns
returns g c cells pubsub topic served is = message_answered _ cells pubsub topic served is
