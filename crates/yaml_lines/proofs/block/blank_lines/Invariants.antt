use Rattle.std.proofs.Common.{◌≡◌, ◌+◌, drop}
use Rattle.yaml_lines.specs.Block.{blank_lead}
use Rattle.yaml_lines.specs.Texts.{texts}
use Rattle.yaml_lines.proofs.block.blank_lines.Given as goal

abbrev pub invariant-loop-count : goal.invariant-loop-count
invariant-loop-count l = blank_lead (texts l.lines) ≡ l.count + blank_lead (texts (drop l.count l.lines))
