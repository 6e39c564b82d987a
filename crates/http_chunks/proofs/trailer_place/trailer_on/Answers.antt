use Rattle.http_chunks.proofs.LinePlaceLemmas.{on_trailer, on_partial}
use Rattle.http_chunks.proofs.trailer_place.trailer_on.Goals as goal

pub returns-in-Some-clause-next : goal.returns-in-Some-clause-next
returns-in-Some-clause-next c = λ are.
    on_trailer c.args.rest.now c.args.trailers c.args.lines c.in-Some.part c.requires.room c.in-Some.ensures are

pub returns-then-is_partial-clause-next : goal.returns-then-is_partial-clause-next
returns-then-is_partial-clause-next c = λ are.
    on_partial c.args.rest.now c.args.trailers c.args.lines c.requires.room (c.is_partial.ensures c.if-is_partial.true) are
