use Rattle.keeper_journal.proofs.Runs.{disk_has, disk_has_just}
use Rattle.keeper_journal.proofs.laws.a_disk_has_what_was_made.Goals as goal

pub returns-clause-most : goal.returns-clause-most
returns-clause-most g c = λ first last commits made doubt has kept. disk_has g.D.Disk first last has.answers commits made doubt has.leads has.made kept

pub returns-clause-just : goal.returns-clause-just
returns-clause-just g c = λ first last commits made doubt has kept whole. disk_has_just g.D.Disk first last has.answers commits made doubt has.leads has.made kept whole
