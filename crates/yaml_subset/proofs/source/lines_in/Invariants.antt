use Rattle.std.proofs.Common.{◌≡◌}
use Rattle.std.specs.Prelude.{map}
use Rattle.yaml_lines.specs.Texts.{texts}
use Rattle.yaml_subset.proofs.source.lines_in.Given as goal

abbrev pub invariant-loop-line : goal.invariant-loop-line
invariant-loop-line l = texts l.lines.items ≡ map (λ line. line.now) l.yielded
