use Rattle.std.proofs.Common.{rules, take}
use Rattle.http_client.proofs.ReplyLemmas.{head_taken}
use Rattle.http_client.proofs.incoming.Incoming.take_head.Goals as goal

pub returns-clause-took : goal.returns-clause-took
returns-clause-took g c =
    (take c.args.spans.now.len c.args.self.now.pending, c.skip.ensures.took, head_taken _ _ _ _ _ c.requires.head (search rules))
