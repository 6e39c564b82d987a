use Rattle.std.proofs.Common.{◌≡◌, ◌++◌, drop}
use Rattle.yaml_lines.specs.Block.{lines_text}
use Rattle.yaml_lines.specs.Texts.{texts}
use Rattle.yaml_lines.proofs.block.push_lines.Given as goal

abbrev pub invariant-loop-line : goal.invariant-loop-line
invariant-loop-line l = l.text.items ++ lines_text l.indent (texts (drop l.line-index l.lines)) ≡ l.fn.text.items ++ lines_text l.indent (texts l.lines)
