use Rattle.http_client.proofs.ChunksLemmas.{read_on, read_whole}
use Rattle.http_client.proofs.incoming.Incoming.read_chunks.Goals as goal

pub returns-in-Need-clause-found : goal.returns-in-Need-clause-found
returns-in-Need-clause-found g c = λ first is.
    read_on first _ _ _ _ _ _ _ c.bytes.ensures c.skip.ensures is c.read_content.ensures.kept c.read_content.ensures.looked (rw c.in-Need.is at c.in-Ok.ensures.ends)

pub returns-in-Whole-clause-found : goal.returns-in-Whole-clause-found
returns-in-Whole-clause-found g c = λ first is.
    read_whole first _ _ _ _ _ _ _ _ c.bytes.ensures c.skip.ensures is (rw c.in-Whole.is at c.in-Ok.ensures.step) (rw c.in-Whole.is at c.in-Ok.ensures.ends)
