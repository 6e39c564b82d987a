use Rattle.std.proofs.Common.{◌≡◌, false, length}
use Rattle.yaml_lines.specs.Found.{shifted}
use Rattle.yaml_lines.specs.Plain.{colon_place}
use Rattle.yaml_lines.proofs.Words.{Left}
use Rattle.yaml_lines.proofs.plain.name_colon.Given as goal

abbrev pub invariant-loop-byte : goal.invariant-loop-byte
invariant-loop-byte l = record {
  left : Left l.bytes l.at l.left;
  same : shifted l.at (colon_place l.after_space l.left) ≡ colon_place false l.bytes;
}

abbrev pub decreases-loop-byte : goal.decreases-loop-byte
decreases-loop-byte l = length l.left
