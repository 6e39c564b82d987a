use Rattle.std.proofs.Common.{◌+◌, ◌-◌, arith}
use Rattle.http_chunks.proofs.TrailerPlaceLemmas.{trailer_taken}
use Rattle.http_chunks.proofs.trailer_place.whole_trailers.Goals as goal

pub loop-behind-preserved : goal.loop-behind-preserved
loop-behind-preserved c =
    let lines = c.loop-behind.lines in
    let behind = c.in-Some.behind in
    record {
      within = omega (arith, c.in-Some.ensures.0, c.loop-behind.invariant.within);
      lines = λ start are.
          trailer_taken c.args.rest.now start lines behind (lines + behind + 1 - lines) (omega arith) c.in-Some.ensures.0 c.in-Some.ensures.1
          (c.is_partial.ensures c.if-not-is_partial.false) (c.loop-behind.invariant.lines start are);
    }
