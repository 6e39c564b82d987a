use Rattle.std.proofs.Common.{sym, subst}
use Rattle.pubsub_api.specs.Publishing.{AcceptReplies, full}
use Rattle.pubsub_api.proofs.replying.accepted.Goals as goal

pub returns-in-Full : goal.returns-in-Full
returns-in-Full c = subst (λ r. AcceptReplies r c.given.result) (sym c.in-Full.is) (c.given.ensures (full c.in-Full.rows c.in-Full.bytes) c.full.ensures)
