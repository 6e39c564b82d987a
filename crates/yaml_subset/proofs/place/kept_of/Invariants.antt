use Rattle.std.proofs.Common.{◌≡◌, List, length}
use Rattle.yaml_subset.specs.Front.{Frame}
use Rattle.yaml_subset.specs.Held.{openings}
use Rattle.yaml_subset.proofs.Opens.{KeptFrom}
use Rattle.yaml_subset.proofs.place.kept_of.Given as goal

abbrev pub invariant-loop-last : goal.invariant-loop-last
invariant-loop-last l = (frames : List Frame) → l.opened ≡ openings frames → KeptFrom l.holder l.column l.left frames

abbrev pub decreases-loop-last : goal.decreases-loop-last
decreases-loop-last l = length l.left
