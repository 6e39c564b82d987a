use Rattle.std.proofs.Common.{◌≡◌, ◌+◌, length, drop}
use Rattle.yaml_lines.specs.Block.{block_lines}
use Rattle.yaml_lines.specs.Texts.{texts}
use Rattle.yaml_lines.proofs.block.lines_of_block.Given as goal

abbrev pub invariant-loop-count : goal.invariant-loop-count
invariant-loop-count l = length (block_lines l.indent (texts l.lines)) ≡ l.count + length (block_lines l.indent (texts (drop l.count l.lines)))
