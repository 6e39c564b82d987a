use Rattle.std.proofs.Common.{◌≡◌, length}
use Rattle.state_api.specs.Asked.{query_of}
use Rattle.state_api.proofs.commanding.query_of.Given as goal

abbrev pub invariant-loop-rest : goal.invariant-loop-rest
invariant-loop-rest l = query_of l.rest ≡ query_of l.target

abbrev pub decreases-loop-rest : goal.decreases-loop-rest
decreases-loop-rest l = length l.rest
