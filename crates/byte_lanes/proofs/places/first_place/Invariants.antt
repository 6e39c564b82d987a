use Rattle.std.proofs.Common.{◌≡◌, ◌+◌, ◌*◌}
use Rattle.byte_lanes.specs.Places.{NonePasses}
use Rattle.byte_lanes.proofs.places.first_place.Given as goal

abbrev pub invariant-loop-block : goal.invariant-loop-block
invariant-loop-block g l = record {
  place : l.at ≡ l.from + 32 * l.block-index;
  passed : NonePasses g.T.ByteTest.passes l.bytes l.from l.at;
}
