use Rattle.std.proofs.Common.{rules}
use Rattle.http_client.proofs.ChunksLemmas.{came_on, all_taken, fewer_rounds}
use Rattle.http_client.proofs.incoming.Incoming.take_chunks.Goals as goal

pub skip-requires : goal.skip-requires
skip-requires g c = (rw c.in-Some.is at (c.in_ok-found.ensures.found _ c.loop-body.invariant.1)).within

pub returns-in-Some-clause-took : goal.returns-in-Some-clause-took
returns-in-Some-clause-took g c =
    all_taken _ _ _ _ _ c.in-Some.len (rw c.in-Some.is at (c.in_ok-found.ensures.found _ c.loop-body.invariant.1)) c.skip.ensures.took

pub loop-body-preserved : goal.loop-body-preserved
loop-body-preserved g c =
    let found = rw c.in-None.is at (c.in_ok-found.ensures.found _ c.loop-body.invariant.1) in
    (search rules, came_on _ _ _ _ _ _ _ c.in_ok-fill_on-in-None.ensures.same c.in_ok-fill_on-in-None.ensures.grown.1 found.0, search rules)

pub loop-body-smaller : goal.loop-body-smaller
loop-body-smaller g c =
    let found = rw c.in-None.is at (c.in_ok-found.ensures.found _ c.loop-body.invariant.1) in
    fewer_rounds _ _ _ _ _ found.1 c.in_ok-fill_on-in-None.ensures.more
