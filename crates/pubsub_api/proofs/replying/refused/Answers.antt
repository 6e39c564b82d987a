use Rattle.std.proofs.Common.{sym, subst}
use Rattle.pubsub_api.specs.Publishing.{RefusalReplies, forbidden, no_event}
use Rattle.pubsub_api.proofs.replying.refused.Goals as goal

pub returns-in-Forbidden : goal.returns-in-Forbidden
returns-in-Forbidden c = subst (λ e. RefusalReplies c.args.topic.now e c.given.result) (sym c.in-Forbidden.is) (c.given.ensures (forbidden c.args.topic.now) c.forbidden.ensures)

pub returns-in-Event : goal.returns-in-Event
returns-in-Event c = subst (λ e. RefusalReplies c.args.topic.now e c.given-in-Event.result) (sym c.in-Event.is) (c.given-in-Event.ensures (no_event c.in-Event.why) c.no_event.ensures)
