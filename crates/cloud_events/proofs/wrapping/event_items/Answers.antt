use Rattle.std.proofs.Common.{Err, ap}
use Rattle.json_text.specs.declared.error.JsonErr.{JsonErr}
use Rattle.cloud_events.proofs.Wraps.{unread_event}
use Rattle.cloud_events.proofs.wrapping.event_items.Goals as goal

pub returns-in-Ok-clause-ok : goal.returns-in-Ok-clause-ok
returns-in-Ok-clause-ok c = c.items_of.ensures.ok c.args.body.now c.in-Ok.ensures.ok

pub returns-in-Ok-clause-err : goal.returns-in-Ok-clause-err
returns-in-Ok-clause-err c = c.items_of.ensures.err c.args.body.now c.in-Ok.ensures.ok

pub returns-in-Err-clause-err : goal.returns-in-Err-clause-err
returns-in-Err-clause-err c = unread_event c.args.body.now c.in-Err.error c.unread.result c.unread.ensures (λ at e. c.in-Err.ensures.bad at (ap (λ (x : JsonErr). Err x) e)) (λ at e. c.in-Err.ensures.deep at (ap (λ (x : JsonErr). Err x) e))
