use Rattle.std.proofs.Common.{Err, ap}
use Rattle.disk_journal.proofs.journal.Journal.load.Goals as goal

pub returns-in-Ok-copied-clause-only : goal.returns-in-Ok-copied-clause-only
returns-in-Ok-copied-clause-only g c = (c.in-Ok-copied.ensures.all c.args.disk c.in-Ok.ensures.given).only

pub returns-in-Err-copied-clause-refused_only : goal.returns-in-Err-copied-clause-refused_only
returns-in-Err-copied-clause-refused_only g c at is = c.in-Err-copied.ensures.refused_only c.args.disk c.in-Ok.ensures.given at (ap Err is)
