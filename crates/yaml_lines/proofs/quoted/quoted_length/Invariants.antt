use Rattle.std.proofs.Common.{◌≡◌, false, length}
use Rattle.yaml_lines.specs.Found.{shifted}
use Rattle.yaml_lines.specs.Quoted.{quoted_len}
use Rattle.yaml_lines.proofs.Words.{Left}
use Rattle.yaml_lines.proofs.quoted.quoted_length.Given as goal

abbrev pub invariant-loop-byte : goal.invariant-loop-byte
invariant-loop-byte l = record {
  left : Left l.bytes l.count l.left;
  same : shifted l.count (quoted_len l.double l.paired l.left) ≡ quoted_len l.double false l.bytes;
}

abbrev pub decreases-loop-byte : goal.decreases-loop-byte
decreases-loop-byte l = length l.left
