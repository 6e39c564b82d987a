use Rattle.std.proofs.Common.{Err, ap}
use Rattle.disk_journal.proofs.OnResult.{same_error}
use Rattle.disk_journal.proofs.loading.copied.Goals as goal

pub returns-in-Err-clause-refused_only : goal.returns-in-Err-clause-refused_only
returns-in-Err-clause-refused_only g c first has at is bytes told bodies image =
    c.in-Err.ensures.refused_only first c.loop-bodies.bodies (c.loop-bodies.invariant.given first has) at (ap Err (same_error is)) bytes told bodies image
