use Rattle.std.proofs.Common.{◌-◌, length}
use Rattle.yaml_subset.specs.Left.{contents_left}
use Rattle.yaml_subset.proofs.Finished.{Halfway}
use Rattle.yaml_subset.proofs.nodes.nodes_of.Given as goal

abbrev pub invariant-loop-line : goal.invariant-loop-line
invariant-loop-line l = Halfway l.reader (contents_left l.source) (contents_left l.fn.lines)

abbrev pub decreases-loop-line : goal.decreases-loop-line
decreases-loop-line l = length l.source.lines.now - l.source.at
