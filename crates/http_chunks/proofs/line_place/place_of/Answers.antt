use Rattle.std.proofs.Common.{sym}
use Rattle.http_chunks.proofs.LinePlaceLemmas.{place_extension, place_size}
use Rattle.http_chunks.proofs.line_place.place_of.Goals as goal

pub returns-then-holds-2 : goal.returns-then-holds-2
returns-then-holds-2 c = place_extension c.args.rest.now c.requires (sym c.if-holds.ensures) (sym c.if-holds-2.ensures)

pub returns-else-holds-2 : goal.returns-else-holds-2
returns-else-holds-2 c = place_size c.args.rest.now c.requires (sym c.if-holds.ensures) (sym c.if-holds-2.ensures)
