use Rattle.std.proofs.Common.{◌≡◌, length}
use Rattle.state_api.specs.Words.{has_bars}
use Rattle.state_api.proofs.words.has_bars.Given as goal

abbrev pub invariant-loop-rest : goal.invariant-loop-rest
invariant-loop-rest l = has_bars l.rest ≡ has_bars l.key

abbrev pub decreases-loop-rest : goal.decreases-loop-rest
decreases-loop-rest l = length l.rest
