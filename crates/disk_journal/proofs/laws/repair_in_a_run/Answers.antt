use Rattle.std.proofs.Common.{⊎_elim}
use Rattle.disk_journal.specs.Journal.{torn_of}
use Rattle.disk_journal.proofs.Calls.{idle_call, repair_call, true_or_false}
use Rattle.disk_journal.proofs.laws.repair_in_a_run.Goals as goal

pub returns-clause-nothing : goal.returns-clause-nothing
returns-clause-nothing g c =
    let e = c.repair.ensures in
    ⊎_elim (λ torn. repair_call g.D.Disk c.args.journal.now c.repair.new.self c.repair.result torn e.repaired e.undone e.any_moment)
    (λ whole. idle_call g.D.Disk g.met.D.Disk.only_now c.args.journal.now c.repair.new.self (e.whole whole).1) (true_or_false (torn_of c.args.journal.now))
