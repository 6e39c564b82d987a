use Rattle.std.proofs.Common.{length}
use Rattle.retry_core.proofs.trip_text.joined.Given as goal
use Rattle.retry_core.proofs.TripLoops.{IsReadTo}

abbrev pub invariant-loop-after : goal.invariant-loop-after
invariant-loop-after l = IsReadTo l.whole l.after l.join l.comparisons l.count

abbrev pub decreases-loop-after : goal.decreases-loop-after
decreases-loop-after l = length l.after
