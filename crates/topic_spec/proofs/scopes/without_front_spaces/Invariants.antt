use Rattle.std.proofs.Common.{◌≡◌, length}
use Rattle.topic_spec.specs.Scopes.{without_front_spaces}
use Rattle.topic_spec.proofs.scopes.without_front_spaces.Given as goal

abbrev pub invariant-loop-rest : goal.invariant-loop-rest
invariant-loop-rest l = without_front_spaces l.rest ≡ without_front_spaces l.bytes

abbrev pub decreases-loop-rest : goal.decreases-loop-rest
decreases-loop-rest l = length l.rest
