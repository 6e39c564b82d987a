use Rattle.std.proofs.Common.{◌-◌, ◌≤◌, length}
use Rattle.byte_lanes.specs.Places.{NonePasses}
use Rattle.byte_lanes.proofs.places.first_place_by_bytes.Given as goal

abbrev pub invariant-loop-at : goal.invariant-loop-at
invariant-loop-at g l = record {
  low : l.from ≤ l.at;
  high : l.at ≤ length l.bytes;
  passed : NonePasses g.T.ByteTest.passes l.bytes l.from l.at;
}

abbrev pub decreases-loop-at : goal.decreases-loop-at
decreases-loop-at g l = length l.bytes - l.at
