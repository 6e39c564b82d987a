use Rattle.std.proofs.Common.{length}
use Rattle.yaml_subset.proofs.docs.Docs.+at_from.Given as goal

abbrev pub decreases-at_from : goal.decreases-at_from
decreases-at_from l = length l.path.now
