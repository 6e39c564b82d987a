use Rattle.topic_spec.specs.Reading.{IsSub}
use Rattle.topic_spec.proofs.Steps.{added_step, unread_step}
use Rattle.topic_spec.proofs.loading.add_draft.Goals as goal

pub returns-in-Ok-clause-step : goal.returns-in-Ok-clause-step
returns-in-Ok-clause-step c = added_step c.add_sub.result c.args.doc c.args.all.now c.add_sub.new.all c.args.draft c.in-Ok.sub c.in-Ok.ensures c.add_sub.ensures.added

pub returns-in-Err-clause-step : goal.returns-in-Err-clause-step
returns-in-Err-clause-step c = unread_step c.args.doc c.args.all.now c.args.all.now c.in-Err.error c.args.draft (IsSub c.args.draft) c.in-Err.ensures
