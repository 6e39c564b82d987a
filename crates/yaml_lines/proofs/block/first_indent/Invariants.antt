use Rattle.std.proofs.Common.{◌≡◌, drop}
use Rattle.yaml_lines.specs.Block.{own_indent}
use Rattle.yaml_lines.specs.Texts.{texts}
use Rattle.yaml_lines.proofs.block.first_indent.Given as goal

abbrev pub invariant-loop-line : goal.invariant-loop-line
invariant-loop-line l = own_indent (texts (drop l.line-index l.lines)) ≡ own_indent (texts l.lines)
