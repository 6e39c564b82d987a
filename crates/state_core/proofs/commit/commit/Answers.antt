use Rattle.std.proofs.Common.{ap, sym, ◌∙◌, Err}
use Rattle.std.proofs.lemmas.Bool.{false≢true}
use Rattle.state_core.proofs.Commits.{no_error, same_error, batch_below, held_same, made, refused}
use Rattle.state_core.proofs.commit.commit.Goals as goal

pub commit-requires-clause-below : goal.commit-requires-clause-below
commit-requires-clause-below g c =
    let batch = c.requires.1 in
    batch_below (g.K.Keeper.rows c.args.keeper.now) (g.K.Keeper.next c.args.keeper.now) c.args.moment c.requires.0 c.args.batch c.in-Ok.changes.next c.in-Ok.changes.list batch (c.in-Ok.ensures.list c.requires.0 batch) c.in-Ok.ensures.next

pub returns-in-Ok-commit : goal.returns-in-Ok-commit
returns-in-Ok-commit g c = λ writes done batch stored.
    let e = c.in-Ok-commit.ensures in
    made g.K.Keeper c.args.keeper.now c.commit.new.self c.args.moment c.args.batch c.in-Ok.changes.list writes done
    (record { batch_is = batch; some = λ none. false≢true (sym c.if-is_empty.false ∙ c.is_empty.ensures.1 none); few = c.if-batch-gt-NEXT_LIMIT.false })
    (c.in-Ok.ensures.list writes batch) e.rows (e.next ∙ c.in-Ok.ensures.next) e.size e.fits e.stays.0 e.stays.1 e.stays.2 e.rises (e.steady (λ is. no_error is)) c.in-Ok.changes.next c.in-Ok.ensures.next e.leads stored

pub returns-in-Ok : goal.returns-in-Ok
returns-in-Ok g c = λ writes done batch stored.
    let e = c.in-Err-commit.ensures in
    refused g.K.Keeper c.args.keeper.now c.commit.new.self c.args.moment c.args.batch c.in-Ok.changes.list writes done c.in-Err-commit.error c.refusal.result
    (record { batch_is = batch; some = λ none. false≢true (sym c.if-is_empty.false ∙ c.is_empty.ensures.1 none); few = c.if-batch-gt-NEXT_LIMIT.false })
    (c.in-Ok.ensures.list writes batch)
    (held_same g.K.Keeper c.args.keeper.now c.commit.new.self e.unchanged.0 e.unchanged.1 e.unchanged.2 e.stays.0 e.stays.1 e.stays.2)
    e.rises
    (λ is. e.failed (ap Err is))
    (λ other. e.steady (λ is. other (same_error is)))
    e.leads_nowhere
    (λ len is. e.full len (ap Err is))
    c.refusal.ensures
