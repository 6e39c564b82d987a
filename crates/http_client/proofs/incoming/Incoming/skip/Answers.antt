use Rattle.http_client.proofs.AheadLemmas.{ahead_skipped}
use Rattle.http_client.proofs.incoming.Incoming.skip.Goals as goal

pub returns-clause-took : goal.returns-clause-took
returns-clause-took g c = rw c.skip.ensures (ahead_skipped _ _ _)
