use Rattle.topic_spec.specs.Listed.{item_draft}
use Rattle.topic_spec.proofs.Gathering.{said_on, said_err}
use Rattle.topic_spec.proofs.listed.item_at.Goals as goal

pub returns-in-Ok : goal.returns-in-Ok
unfolding item_draft
returns-in-Ok c item at = said_on c.args.place _ c.in-Ok.draft _ (c.in-Ok.ensures item at) c.unless_own.ensures

pub returns-in-Err : goal.returns-in-Err
unfolding item_draft
returns-in-Err c item at = said_err c.args.place _ c.in-Err.error _ c.in_document.ensures (c.in-Err.ensures item at)
