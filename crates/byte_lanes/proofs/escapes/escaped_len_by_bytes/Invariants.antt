use Rattle.std.proofs.Common.{◌≡◌, ◌*◌, ◌≤◌, length, take}
use Rattle.byte_lanes.specs.Spelling.{spelled}
use Rattle.byte_lanes.proofs.escapes.escaped_len_by_bytes.Given as goal

abbrev pub invariant-loop-byte : goal.invariant-loop-byte
invariant-loop-byte l = record {
  exact : l.total ≡ length (spelled (take l.byte-index l.bytes));
  bound : l.total ≤ 6 * l.byte-index;
}
