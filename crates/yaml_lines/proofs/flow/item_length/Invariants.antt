use Rattle.std.proofs.Common.{◌≡◌, ◌+◌, false, length}
use Rattle.yaml_lines.specs.declared.flow.Within.TheVariants.{Before as before}
use Rattle.yaml_lines.specs.ItemLength.{item_len}
use Rattle.yaml_lines.proofs.Words.{Left}
use Rattle.yaml_lines.proofs.flow.item_length.Given as goal

abbrev pub invariant-loop-byte : goal.invariant-loop-byte
invariant-loop-byte l = record {
  left : Left l.bytes l.count l.left;
  same : l.count + item_len l.within l.left ≡ item_len (before false) l.bytes;
}

abbrev pub decreases-loop-byte : goal.decreases-loop-byte
decreases-loop-byte l = length l.left
