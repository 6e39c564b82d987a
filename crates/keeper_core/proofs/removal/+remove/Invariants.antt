use Rattle.keeper_core.specs.Shapes.{height_at}
use Rattle.keeper_core.proofs.removal.+remove.Given as goal

abbrev pub decreases-remove : goal.decreases-remove
decreases-remove l = height_at l.links.now l.at
