use Rattle.keeper_core.specs.Shapes.{height_at}
use Rattle.keeper_core.proofs.removal.+take_least.Given as goal

abbrev pub decreases-take_least : goal.decreases-take_least
decreases-take_least l = height_at l.links.now l.at
