use Rattle.std.proofs.Common.{ap, sym, ◌∙◌}
use Rattle.state_core.specs.Judged.{version_in}
use Rattle.state_core.proofs.Batches.{judged_removal}
use Rattle.state_core.proofs.batch.judge_removal.Goals as goal

pub returns-in_ok-remove-clause-judged : goal.returns-in_ok-remove-clause-judged
returns-in_ok-remove-clause-judged g c = λ writes batch.
    judged_removal _ _ c.args.moment writes c.args.key.now c.args.etag.now c.args.mode _ c.version_in-version.result c.args.batch.now c.remove.new.self
    batch (c.version_in-version.ensures writes batch ∙ ap (λ key. version_in (g.K.Keeper.rows c.args.keeper.now) (g.K.Keeper.next c.args.keeper.now) c.args.moment writes key) c.as_str.ensures.value) c.is_current-passes.ensures c.if-passes.true (sym c.is_some.ensures ∙ c.if-is_some.true) c.in_ok-remove.ensures
