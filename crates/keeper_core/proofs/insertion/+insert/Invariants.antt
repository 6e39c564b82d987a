use Rattle.keeper_core.specs.Shapes.{height_at}
use Rattle.keeper_core.proofs.insertion.+insert.Given as goal

abbrev pub decreases-insert : goal.decreases-insert
decreases-insert l = height_at l.links.now l.at
