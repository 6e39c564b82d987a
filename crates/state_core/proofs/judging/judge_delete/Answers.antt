use Rattle.std.proofs.Common.{subst, []}
use Rattle.state_core.specs.Batch.{IsBatch}
use Rattle.state_core.proofs.judging.judge_delete.Goals as goal

pub returns : goal.returns
returns g c =
    let rows = g.K.Keeper.rows c.args.keeper.now in
    c.in_ok-passes.ensures.judged [] (subst (λ n. IsBatch rows n c.args.moment [] c.new-batch.result) c.next_version.ensures (c.new-batch.ensures rows c.args.moment))
