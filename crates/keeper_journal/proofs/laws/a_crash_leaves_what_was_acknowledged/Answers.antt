use Rattle.disk_journal.proofs.Runs.{leaves_what_was_made}
use Rattle.keeper_journal.specs.History.{IsHistory}
use Rattle.keeper_journal.specs.JournalKeeper.{disk_in}
use Rattle.keeper_journal.specs.Kept.{Kept}
use Rattle.keeper_journal.proofs.Runs.{leaves_kept}
use Rattle.keeper_journal.proofs.laws.a_crash_leaves_what_was_acknowledged.Goals as goal

pub returns : goal.returns
returns g c = leaves_what_was_made g.D.Disk disk_in (Kept g.D.Disk) IsHistory g.met.D.Disk.only_now (leaves_kept g.D.Disk)
