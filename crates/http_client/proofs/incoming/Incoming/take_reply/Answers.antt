use Rattle.std.proofs.Common.{rules}
use Rattle.http_client.proofs.ReplyLemmas.{whole_reply}
use Rattle.http_client.proofs.incoming.Incoming.take_reply.Goals as goal

pub returns-in-Ok-clause-took : goal.returns-in-Ok-clause-took
returns-in-Ok-clause-took g c = whole_reply _ _ _ _ _ _ c.in-Some.framing _ _ _ _ c.in_ok-head.ensures.took.1 c.in_ok-head.ensures.took.2
    (search rules) c.in_ok-body-in-Some.ensures.took.1 (search rules) c.in_ok-body-in-Some.ensures.all (search rules) (search rules) (search rules)
