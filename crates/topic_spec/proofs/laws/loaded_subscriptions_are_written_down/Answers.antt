use Rattle.topic_spec.proofs.Sound.{loaded_written, written_joined}
use Rattle.topic_spec.proofs.laws.loaded_subscriptions_are_written_down.Goals as goal

pub returns-clause-loaded : goal.returns-clause-loaded
returns-clause-loaded c = loaded_written

pub returns-clause-joined : goal.returns-clause-joined
returns-clause-joined c = written_joined
