use Rattle.std.proofs.Common.{◌≡◌, ◌≤◌, length, take}
use Rattle.yaml_lines.specs.Block.{without_empty_end}
use Rattle.yaml_lines.specs.Texts.{texts}
use Rattle.yaml_lines.proofs.block.without_empty_lines.Given as goal

abbrev pub invariant-loop-count : goal.invariant-loop-count
invariant-loop-count l = record {
  inside : l.count ≤ length l.block;
  same : without_empty_end l.indent (texts (take l.count l.block)) ≡ without_empty_end l.indent (texts l.block);
}

abbrev pub decreases-loop-count : goal.decreases-loop-count
decreases-loop-count l = l.count
