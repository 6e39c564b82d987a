use Rattle.std.proofs.Common.{◌-◌, ◌≤◌, ℕ, length}
use Rattle.http_chunks.specs.LinePlaces.{AreTrailers}
use Rattle.http_chunks.proofs.trailer_place.whole_trailers.Given as goal

abbrev pub invariant-loop-behind : goal.invariant-loop-behind
invariant-loop-behind l = record {
  within : l.lines ≤ length l.rest;
  lines : (start : ℕ) → AreTrailers l.rest start l.from → AreTrailers l.rest start l.lines;
}

abbrev pub decreases-loop-behind : goal.decreases-loop-behind
decreases-loop-behind l = length l.rest - l.lines
