use Rattle.std.proofs.Common.{◌≡◌, Err, ap}
use Rattle.disk_journal.specs.declared.error.JournalErr.TheVariants.{NotAJournal}
use Rattle.keeper_journal.proofs.replaying.replay.Goals as goal

pub returns-in-Ok-false-clause-changed : goal.returns-in-Ok-false-clause-changed
returns-in-Ok-false-clause-changed g c first has = c.in-Ok-false.ensures.changed first (c.loop-replay.invariant.followed first has)

pub returns-in-Err-clause-refused : goal.returns-in-Err-clause-refused
returns-in-Err-clause-refused g c first has at is =
    let same : c.in-Err.error ≡ NotAJournal at = cc is in
    c.in-Err.ensures.refused first (c.loop-replay.invariant.followed first has) at (ap Err same)

pub returns-in-Err-clause-refused_only : goal.returns-in-Err-clause-refused_only
returns-in-Err-clause-refused_only g c first has at is =
    let same : c.in-Err.error ≡ NotAJournal at = cc is in
    c.in-Err.ensures.refused_only first (c.loop-replay.invariant.followed first has) at (ap Err same)

pub returns-in-Err-clause-changed : goal.returns-in-Err-clause-changed
returns-in-Err-clause-changed g c first has = c.in-Err.ensures.changed first (c.loop-replay.invariant.followed first has)
