use Rattle.keeper_core.specs.Shapes.{height_at}
use Rattle.keeper_core.proofs.seeking.+first_lapsed.Given as goal

abbrev pub decreases-first_lapsed : goal.decreases-first_lapsed
decreases-first_lapsed l = height_at l.links.now l.at
