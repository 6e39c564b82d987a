use Rattle.disk_journal.proofs.Runs.{acknowledged_call, refused_call}
use Rattle.keeper_journal.specs.History.{IsHistory}
use Rattle.keeper_journal.specs.JournalKeeper.{disk_in}
use Rattle.keeper_journal.specs.Kept.{Kept}
use Rattle.keeper_journal.proofs.laws.commit_in_a_run.Goals as goal

pub returns-clause-acknowledged : goal.returns-clause-acknowledged
returns-clause-acknowledged g c = acknowledged_call g.D.Disk disk_in (Kept g.D.Disk) IsHistory c.args.keeper.now c.commit.new.self c.args.changes c.commit.ensures.any_moment c.commit.result c.commit.ensures.kept

pub returns-clause-not_acknowledged : goal.returns-clause-not_acknowledged
returns-clause-not_acknowledged g c = refused_call g.D.Disk disk_in (Kept g.D.Disk) IsHistory c.args.keeper.now c.commit.new.self c.args.changes c.commit.ensures.any_moment c.commit.result c.commit.ensures.undone
