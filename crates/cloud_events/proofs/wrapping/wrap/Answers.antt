use Rattle.cloud_events.proofs.Wraps.{wrapped_is}
use Rattle.cloud_events.proofs.wrapping.wrap.Goals as goal

pub returns-in-Ok-finish-clause-ok : goal.returns-in-Ok-finish-clause-ok
returns-in-Ok-finish-clause-ok c = wrapped_is c.args.sent.now c.args.id.now c.args.now c.in-Ok.items.items c.in-Ok.ensures.ok c.in-Ok-finish.event c.in-Ok-finish.ensures
