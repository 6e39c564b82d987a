use Rattle.cloud_events.proofs.Resent.{accepted_again, members_again}
use Rattle.cloud_events.proofs.laws.an_event_is_accepted_again.Goals as goal

pub returns-clause-accepted : goal.returns-clause-accepted
returns-clause-accepted c sent again id event now error s refused = accepted_again sent again id now event error s refused

pub returns-clause-kept : goal.returns-clause-kept
returns-clause-kept c sent again id next event other now later one two = members_again sent again id next event other now later one two
