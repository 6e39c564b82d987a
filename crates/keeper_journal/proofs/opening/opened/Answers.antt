use Rattle.std.proofs.Common.{◌∙◌, ℕ, List, None, Result, Err, sym, ap, subst}
use Rattle.disk_journal.specs.Journal.{Holds}
use Rattle.disk_journal.specs.declared.journal.Journal.{Journal}
use Rattle.disk_journal.specs.declared.error.JournalErr.{JournalErr}
use Rattle.keeper_journal.specs.declared.following.Replay.{Replay}
use Rattle.keeper_journal.specs.History.{Say}
use Rattle.keeper_journal.proofs.Openings.{kept_of}
use Rattle.keeper_journal.proofs.opening.opened.Goals as goal

abbrev with_error : JournalErr → Result Replay JournalErr
with_error e = Err e

pub returns-in-Err-clause-refused_only : goal.returns-in-Err-clause-refused_only
returns-in-Err-clause-refused_only g c = λ at is bytes told commits history. c.in-Err.ensures.refused_only at is bytes told history.bodies history.image

pub returns-in-Ok-replay-clause-kept : goal.returns-in-Ok-replay-clause-kept
returns-in-Ok-replay-clause-kept g c =
    let all = c.in-Ok-replay.ensures.replayed c.args.disk c.in-Ok.ensures.given in
    let replayed = all.replayed in
    let holds : Holds g.D.Disk c.over.result.journal all.bodies None = subst (λ (j : Journal g.row.D.Denot g.D.Disk). Holds g.D.Disk j all.bodies None) (sym c.over.ensures.journal) (c.into_journal.ensures.holds c.args.disk all.bodies all.given) in (
      replayed.commits,
      kept_of g.D.Disk c.over.result.journal all.bodies c.over.result.table.rows c.over.result.next replayed.commits replayed.commits holds replayed.say replayed.say (c.over.ensures.rows ∙ replayed.rows) (c.over.ensures.next ∙ replayed.next),
      λ bytes told. record { bodies = all.bodies; image = all.given.image bytes told; say = replayed.say },
    )

pub returns-in-Ok-replay-clause-only : goal.returns-in-Ok-replay-clause-only
returns-in-Ok-replay-clause-only g c = λ bytes told commits history.
    let all = c.in-Ok-replay.ensures.replayed c.args.disk c.in-Ok.ensures.given in
    let replayed = all.replayed in
    let same = all.given.only bytes told history.bodies history.image in
    let says : Say all.bodies commits = subst (λ (b : List (List ℕ)). Say b commits) same history.say in
    let holds : Holds g.D.Disk c.over.result.journal all.bodies None = subst (λ (j : Journal g.row.D.Denot g.D.Disk). Holds g.D.Disk j all.bodies None) (sym c.over.ensures.journal) (c.into_journal.ensures.holds c.args.disk all.bodies all.given) in
    kept_of g.D.Disk c.over.result.journal all.bodies c.over.result.table.rows c.over.result.next replayed.commits commits holds replayed.say says (c.over.ensures.rows ∙ replayed.rows) (c.over.ensures.next ∙ replayed.next)

pub returns-in-Err-replay-clause-refused : goal.returns-in-Err-replay-clause-refused
returns-in-Err-replay-clause-refused g c = λ at is. c.in-Err-replay.ensures.refused c.args.disk c.in-Ok.ensures.given at (ap with_error is)

pub returns-in-Err-replay-clause-refused_only : goal.returns-in-Err-replay-clause-refused_only
returns-in-Err-replay-clause-refused_only g c = λ at is. c.in-Err-replay.ensures.refused_only c.args.disk c.in-Ok.ensures.given at (ap with_error is)
