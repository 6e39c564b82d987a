use Rattle.std.proofs.Common.{sym, ◌∙◌, arith}
use Rattle.http_chunks.proofs.LinePlaceLemmas.{part_on}
use Rattle.http_chunks.proofs.line_place.goes_on.Goals as goal

pub returns-then-has_room-clause-part : goal.returns-then-has_room-clause-part
returns-then-has_room-clause-part c = λ plain is.
    part_on c.args.rest.now c.args.place (omega arith) (sym c.are_of_part.ensures ∙ plain) is
