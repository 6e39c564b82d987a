use Rattle.std.proofs.Common.{[], ◌∙◌, arith}
use Rattle.keeper_journal.proofs.Openings.{still_kept, still_only, still_refused_only, fresh_kept}
use Rattle.keeper_journal.proofs.journal_keeper.JournalKeeper.start.Goals as goal

pub returns-in-Ok-create-clause-kept : goal.returns-in-Ok-create-clause-kept
returns-in-Ok-create-clause-kept g c =
    ([], fresh_kept g.D.Disk c.over.result c.in-Ok-create.journal c.in-Ok-create.ensures.holds c.over.ensures.journal (c.over.ensures.rows ∙ c.new.ensures.rows) (c.over.ensures.next ∙ c.new.ensures.next), λ some. absurd (some (omega (arith, c.in-Ok-eq0.ensures.len, c.in-Ok-eq0.field-0-is))))

pub returns-in-Ok-clause-kept : goal.returns-in-Ok-clause-kept
returns-in-Ok-clause-kept g c = still_kept g.D.Disk c.args.disk c.len.new.self c.in-Ok.ensures.contents c.opened.result c.opened.ensures.kept

pub returns-in-Ok-clause-only : goal.returns-in-Ok-clause-only
returns-in-Ok-clause-only g c = λ some. still_only g.D.Disk c.args.disk c.len.new.self c.in-Ok.ensures.contents c.opened.result c.opened.ensures.only

pub returns-in-Ok-clause-refused_only : goal.returns-in-Ok-clause-refused_only
returns-in-Ok-clause-refused_only g c = λ some. still_refused_only g.D.Disk c.args.disk c.len.new.self c.in-Ok.ensures.contents c.opened.result c.opened.ensures.refused_only
