use Rattle.std.proofs.Common.{◌≡◌, length}
use Rattle.yaml_lines.specs.Plain.{trimmed}
use Rattle.yaml_lines.proofs.plain.trim.Given as goal

abbrev pub invariant-loop-last : goal.invariant-loop-last
invariant-loop-last l = trimmed l.left ≡ trimmed l.bytes

abbrev pub decreases-loop-last : goal.decreases-loop-last
decreases-loop-last l = length l.left
