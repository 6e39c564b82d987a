use Rattle.keeper_core.specs.Shapes.{height_at}
use Rattle.keeper_core.proofs.seeking.+slot_of.Given as goal

abbrev pub decreases-slot_of : goal.decreases-slot_of
decreases-slot_of l = height_at l.links.now l.at
