use Rattle.policy_spec.proofs.Reading.{there_are}
use Rattle.policy_spec.proofs.laws.there_are_readers.Goals as goal

pub returns : goal.returns
returns c = there_are
