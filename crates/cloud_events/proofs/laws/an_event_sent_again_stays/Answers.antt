use Rattle.cloud_events.proofs.Resent.{stays}
use Rattle.cloud_events.proofs.laws.an_event_sent_again_stays.Goals as goal

pub returns : goal.returns
returns c sent again id next event other now later one two alike some = stays sent again id next event other now later one two alike some
