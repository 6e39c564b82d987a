use Rattle.std.proofs.Common.{◌≡◌, ◌++◌, Err, ap}
use Rattle.disk_journal.specs.declared.error.JournalErr.TheVariants.{NotAJournal}
use Rattle.keeper_journal.proofs.replaying.pass_rest.Goals as goal

pub returns-in-Err-clause-refused_only : goal.returns-in-Err-clause-refused_only
returns-in-Err-clause-refused_only g c first bodies given at is bytes told others image =
    let so_far = c.loop-error.invariant.given first bodies given in
    let same : c.in-Err.error ≡ NotAJournal at = cc is in
    c.in-Err.ensures.refused_only first (bodies ++ so_far.0) so_far.1 at (ap Err same) bytes told others image
