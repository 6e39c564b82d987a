use Rattle.cloud_events.proofs.OneEvent.{one_event}
use Rattle.cloud_events.proofs.laws.a_body_becomes_one_event.Goals as goal

pub returns : goal.returns
returns c sent id one other now p q = one_event sent id one other now p q
