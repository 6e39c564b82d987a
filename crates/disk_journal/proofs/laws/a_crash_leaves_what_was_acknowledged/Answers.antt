use Rattle.disk_journal.specs.Image.{IsImage}
use Rattle.disk_journal.specs.Journal.{disk_of, Holds}
use Rattle.disk_journal.proofs.Calls.{leaves_held}
use Rattle.disk_journal.proofs.Runs.{leaves_what_was_made}
use Rattle.disk_journal.proofs.laws.a_crash_leaves_what_was_acknowledged.Goals as goal

pub returns : goal.returns
returns g c = leaves_what_was_made g.D.Disk disk_of (Holds g.D.Disk) IsImage g.met.D.Disk.only_now (leaves_held g.D.Disk)
