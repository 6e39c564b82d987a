use Rattle.std.proofs.Common.{◌≡◌, ◌++◌, ◌≤◌, ◌-◌, length, take}
use Rattle.byte_lanes.specs.Spelling.{spelled}
use Rattle.json_lexemes.proofs.write.push_inside.Given as goal

abbrev pub invariant-loop-place : goal.invariant-loop-place
invariant-loop-place l = record {
  high : l.at ≤ length l.bytes;
  written : l.out ≡ l.fn.out ++ spelled (take l.at l.bytes);
}

abbrev pub decreases-loop-place : goal.decreases-loop-place
decreases-loop-place l = length l.bytes - l.at
