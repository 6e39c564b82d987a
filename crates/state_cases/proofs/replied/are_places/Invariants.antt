use Rattle.std.proofs.Common.{length}
use Rattle.state_core.specs.Fits.{ArePlaces}
use Rattle.state_cases.proofs.replied.are_places.Given as goal

abbrev pub invariant-loop-rest : goal.invariant-loop-rest
invariant-loop-rest l = ArePlaces l.low l.high l.rest → ArePlaces 0 l.high l.places

abbrev pub decreases-loop-rest : goal.decreases-loop-rest
decreases-loop-rest l = length l.rest
