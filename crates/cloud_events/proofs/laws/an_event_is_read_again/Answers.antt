use Rattle.cloud_events.proofs.Again.{read_again}
use Rattle.cloud_events.proofs.laws.an_event_is_read_again.Goals as goal

pub returns : goal.returns
returns c sent id event now wrapped texts = read_again sent id event now wrapped texts
