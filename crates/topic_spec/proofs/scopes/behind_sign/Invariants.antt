use Rattle.std.proofs.Common.{◌≡◌, length}
use Rattle.topic_spec.specs.Scopes.{behind_sign}
use Rattle.topic_spec.proofs.scopes.behind_sign.Given as goal

abbrev pub invariant-loop-rest : goal.invariant-loop-rest
invariant-loop-rest l = behind_sign l.rest ≡ behind_sign l.item

abbrev pub decreases-loop-rest : goal.decreases-loop-rest
decreases-loop-rest l = length l.rest
