use Rattle.cloud_events.specs.Media.{form_of}
use Rattle.cloud_events.proofs.Causes.{no_cause}
use Rattle.cloud_events.proofs.laws.an_event_has_no_cause_of_refusal.Goals as goal

pub returns : goal.returns
returns c sent id event now error wrapped refused = no_cause (form_of sent.content_type) sent wrapped.given error wrapped.is refused
