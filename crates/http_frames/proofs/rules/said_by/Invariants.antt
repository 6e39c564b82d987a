use Rattle.std.proofs.Common.{drop}
use Rattle.http_frames.specs.Said.{IsSaid}
use Rattle.http_frames.proofs.rules.said_by.Given as goal

abbrev pub invariant-loop-i : goal.invariant-loop-i
invariant-loop-i l = IsSaid (drop l.i l.fields) l.said
