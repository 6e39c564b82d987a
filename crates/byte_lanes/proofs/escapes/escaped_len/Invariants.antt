use Rattle.std.proofs.Common.{◌≡◌, ◌*◌, ◌≤◌, length, take}
use Rattle.byte_lanes.specs.Spelling.{spelled}
use Rattle.byte_lanes.proofs.escapes.escaped_len.Given as goal

abbrev pub invariant-loop-block : goal.invariant-loop-block
invariant-loop-block l = record {
  exact : l.total ≡ length (spelled (take (32 * l.block-index) l.bytes));
  bound : l.total ≤ 192 * l.block-index;
}
