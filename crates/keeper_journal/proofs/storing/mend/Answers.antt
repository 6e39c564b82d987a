use Rattle.std.proofs.Common.{◌≡◌, true, false}
use Rattle.keeper_journal.proofs.Stored.{not_repaired, is_repaired, while_mending}
use Rattle.keeper_journal.proofs.storing.mend.Goals as goal

not_ok : false ≡ true → ⊥
not_ok h = cc

pub returns-in-Ok-clause-repaired : goal.returns-in-Ok-clause-repaired
returns-in-Ok-clause-repaired g c = λ bodies doubt holds.
    is_repaired g.D.Disk c.args.journal.now c.repair.new.self bodies doubt (λ whole. (c.in-Ok.ensures.whole whole).1) (c.in-Ok.ensures.repaired bodies) holds

pub returns-in-Ok-clause-any_moment : goal.returns-in-Ok-clause-any_moment
returns-in-Ok-clause-any_moment g c = λ bodies doubt holds.
    while_mending g.D.Disk g.met.D.Disk.only_now c.args.journal.now c.repair.new.self bodies doubt (λ whole. (c.in-Ok.ensures.whole whole).1) (c.in-Ok.ensures.any_moment bodies) holds

pub returns-in-Err-clause-undone : goal.returns-in-Err-clause-undone
returns-in-Err-clause-undone g c = λ bodies doubt holds.
    not_repaired g.D.Disk c.args.journal.now c.repair.new.self bodies doubt (λ whole. not_ok (c.in-Err.ensures.whole whole).0) (c.in-Err.ensures.undone bodies) holds

pub returns-in-Err-clause-any_moment : goal.returns-in-Err-clause-any_moment
returns-in-Err-clause-any_moment g c = λ bodies doubt holds.
    while_mending g.D.Disk g.met.D.Disk.only_now c.args.journal.now c.repair.new.self bodies doubt (λ whole. (c.in-Err.ensures.whole whole).1) (c.in-Err.ensures.any_moment bodies) holds
