use Rattle.policy_spec.proofs.Found.{taken_off}
use Rattle.policy_spec.proofs.named.Named.take_first.Goals as goal

pub returns-clause-apart : goal.returns-clause-apart
returns-clause-apart g c = taken_off _ c.self.inside.tree c.pop_first.new.self c.pop_first.result c.pop_first.ensures.updates
