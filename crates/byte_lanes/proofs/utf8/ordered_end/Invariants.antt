use Rattle.std.proofs.Common.{◌-◌, ◌≤◌, length}
use Rattle.byte_lanes.specs.Utf8.{AreInOrder}
use Rattle.byte_lanes.proofs.utf8.ordered_end.Given as goal

abbrev pub invariant-loop-at : goal.invariant-loop-at
invariant-loop-at l = record {
  low : 3 ≤ l.at;
  high : l.at ≤ length l.bytes;
  ordered : AreInOrder l.bytes l.at;
}

abbrev pub decreases-loop-at : goal.decreases-loop-at
decreases-loop-at l = length l.bytes - l.at
