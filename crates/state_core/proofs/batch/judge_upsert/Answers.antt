use Rattle.state_core.proofs.Batches.{judged_upsert}
use Rattle.state_core.proofs.batch.judge_upsert.Goals as goal

pub returns-in_ok-put-clause-judged : goal.returns-in_ok-put-clause-judged
returns-in_ok-put-clause-judged g c = λ writes batch.
    judged_upsert _ _ c.args.moment writes c.args.item.now _ c.until_of.result c.args.batch.now c.put.new.self
    batch (c.passes-passes.ensures writes batch) c.if-passes.true c.until_of.ensures c.requires.ttl c.in_ok-put.ensures
