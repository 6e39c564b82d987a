use Rattle.http_chunks.proofs.LinePlaceLemmas.{on_part}
use Rattle.http_chunks.proofs.trailer_place.place_on.Goals as goal

pub returns-then-goes_on-clause-next : goal.returns-then-goes_on-clause-next
returns-then-goes_on-clause-next c = λ is.
    on_part c.args.rest.now c.args.place (c.goes_on.ensures.part c.if-goes_on.true is) (c.goes_on.ensures.room c.if-goes_on.true) is
