use Rattle.std.specs.Prelude.{IfSome}
use Rattle.yaml_subset.specs.Docs.{IsPart, parts_left}
use Rattle.yaml_cases.proofs.tree.+add_row.Given as goal

abbrev pub invariant-loop-here : goal.invariant-loop-here
invariant-loop-here l = IfSome l.here (IsPart l.docs)

abbrev pub decreases-loop-here : goal.decreases-loop-here
decreases-loop-here l = parts_left l.docs l.here

abbrev pub decreases-add_row : goal.decreases-add_row
decreases-add_row l = l.left
