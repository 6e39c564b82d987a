use Rattle.std.proofs.Common.{length, ◌-◌}
use Rattle.side_world.proofs.Gathered.{GatheredSoFar}
use Rattle.side_world.proofs.reading.gather.Given as goal

abbrev pub invariant-loop-piece : goal.invariant-loop-piece
invariant-loop-piece g l =
    GatheredSoFar (g.S.Source.left l.fn.source) (g.S.Source.left l.source) (g.S.Source.taken l.fn.source) (g.S.Source.taken l.source) (g.S.Source.faults l.fn.source) (g.S.Source.faults l.source) l.gathered l.limit

abbrev pub decreases-loop-piece : goal.decreases-loop-piece
decreases-loop-piece g l = l.limit - length l.gathered
