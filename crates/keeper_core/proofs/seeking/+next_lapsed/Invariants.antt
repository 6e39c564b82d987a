use Rattle.keeper_core.specs.Shapes.{height_at}
use Rattle.keeper_core.proofs.seeking.+next_lapsed.Given as goal

abbrev pub decreases-next_lapsed : goal.decreases-next_lapsed
decreases-next_lapsed l = height_at l.links.now l.at
