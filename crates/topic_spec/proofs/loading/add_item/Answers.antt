use Rattle.topic_spec.specs.Listed.{item_said}
use Rattle.topic_spec.proofs.Steps.{draft_step, draft_refused}
use Rattle.topic_spec.proofs.loading.add_item.Goals as goal

pub returns-in-Ok-clause-step : goal.returns-in-Ok-clause-step
unfolding item_said
returns-in-Ok-clause-step c item at = draft_step c.add_draft.result c.args.place c.args.all.now c.add_draft.new.all c.in-Ok.draft _ (c.in-Ok.ensures item at) c.add_draft.ensures.step

pub returns-in-Err-clause-step : goal.returns-in-Err-clause-step
unfolding item_said
returns-in-Err-clause-step c item at = draft_refused c.args.place c.args.all.now c.args.all.now c.in-Err.error _ (c.in-Err.ensures item at)
