use Rattle.keeper_journal.proofs.Runs.{found_again, not_refused}
use Rattle.keeper_journal.proofs.laws.start_after_a_crash.Goals as goal

pub returns-clause-found : goal.returns-clause-found
returns-clause-found g c = found_again g.D.Disk g.E.Disk g.met.D.Disk.only_now c.args.disk (g.met.E.Disk.as_long c.args.disk) c.start.result c.start.ensures.only

pub returns-clause-not_refused : goal.returns-clause-not_refused
returns-clause-not_refused g c = not_refused g.D.Disk g.E.Disk g.met.D.Disk.only_now c.args.disk (g.met.E.Disk.as_long c.args.disk) c.start.result c.start.ensures.refused_only
