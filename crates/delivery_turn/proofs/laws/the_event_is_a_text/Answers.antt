use Rattle.delivery_turn.proofs.SampleEvent.{values, event_read}
use Rattle.delivery_turn.proofs.laws.the_event_is_a_text.Goals as goal

pub returns : goal.returns
returns c = (values, event_read)
