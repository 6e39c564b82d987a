use Rattle.std.proofs.Common.{◌≡◌, inl, inr, Err, refl, arith}
use Rattle.disk_journal.specs.declared.error.JournalErr.TheVariants as errors
use Rattle.keeper_journal.proofs.Stored.{rose_since, while_mended, while_appending}
use Rattle.keeper_journal.proofs.storing.store.Goals as goal

pub returns-in-Err-clause-undone : goal.returns-in-Err-clause-undone
returns-in-Err-clause-undone g c = λ bodies doubt holds. inl (c.in-Err.ensures.undone bodies doubt holds)

pub returns-in-Err-clause-any_moment : goal.returns-in-Err-clause-any_moment
returns-in-Err-clause-any_moment g c = λ bodies doubt holds.
    while_mended g.D.Disk c.args.journal.now c.mend.new.journal bodies doubt c.args.body.now (c.in-Err.ensures.any_moment bodies doubt holds)

pub returns-in-Err-append-clause-undone : goal.returns-in-Err-append-clause-undone
returns-in-Err-append-clause-undone g c = λ bodies doubt holds.
    let failed : Err c.in-Err-append.field-0 ≡ Err errors.Failed = elim c.in-Err-append.ensures.causes [
      | inl is ↦ is
      | inr full ↦ absurd (let cause = (c.in-Err-append.ensures.full full.0).0 full.1 in omega (arith, cause.0, cause.1))
    ] in
    inr (c.in-Err-append.ensures.undone bodies (c.in-Ok.ensures.repaired bodies doubt holds) failed)

pub returns-in-Err-append-clause-any_moment : goal.returns-in-Err-append-clause-any_moment
returns-in-Err-append-clause-any_moment g c = λ bodies doubt holds.
    while_appending g.D.Disk c.args.journal.now c.mend.new.journal c.append.new.self bodies doubt c.args.body.now
    (while_mended g.D.Disk c.args.journal.now c.mend.new.journal bodies doubt c.args.body.now (c.in-Ok.ensures.any_moment bodies doubt holds))
    (c.in-Err-append.ensures.any_moment bodies (c.in-Ok.ensures.repaired bodies doubt holds))

pub returns-in-Err-append-clause-failed : goal.returns-in-Err-append-clause-failed
returns-in-Err-append-clause-failed g c =
    let failed : Err c.in-Err-append.field-0 ≡ Err errors.Failed = elim c.in-Err-append.ensures.causes [
      | inl is ↦ is
      | inr full ↦ absurd (let cause = (c.in-Err-append.ensures.full full.0).0 full.1 in omega (arith, cause.0, cause.1))
    ] in
    (refl, rose_since _ _ _ c.in-Ok.ensures.no_fewer (c.in-Err-append.ensures.failed failed))

pub returns-in-Ok-append-clause-stored : goal.returns-in-Ok-append-clause-stored
returns-in-Ok-append-clause-stored g c = λ bodies doubt holds. c.in-Ok-append.ensures.appended bodies (c.in-Ok.ensures.repaired bodies doubt holds)

pub returns-in-Ok-append-clause-any_moment : goal.returns-in-Ok-append-clause-any_moment
returns-in-Ok-append-clause-any_moment g c = λ bodies doubt holds.
    while_appending g.D.Disk c.args.journal.now c.mend.new.journal c.append.new.self bodies doubt c.args.body.now
    (while_mended g.D.Disk c.args.journal.now c.mend.new.journal bodies doubt c.args.body.now (c.in-Ok.ensures.any_moment bodies doubt holds))
    (c.in-Ok-append.ensures.any_moment bodies (c.in-Ok.ensures.repaired bodies doubt holds))
