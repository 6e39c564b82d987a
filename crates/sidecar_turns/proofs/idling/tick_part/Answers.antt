use Rattle.std.proofs.Common.{◌∙◌, sym}
use Rattle.sidecar_objects.specs.Composed.{does_as}
use Rattle.sidecar_turns.specs.Idling.{TickPart}
use Rattle.sidecar_turns.specs.Ticking.{Ticks}
use Rattle.sidecar_turns.proofs.Parts.{tick_spent}
use Rattle.sidecar_turns.proofs.idling.tick_part.Goals as goal

pub returns-clause-does : goal.returns-clause-does
returns-clause-does g c = does_as _ _ _ _ (λ events. Ticks c.args.duties.now.crons.now events c.tick.result) (λ events. TickPart c.args.duties.now.crons.now events c.of_tick.result) (λ events ticks. (c.tick.result, ticks, c.of_tick.ensures)) c.tick.ensures.does

pub returns-clause-shows : goal.returns-clause-shows
returns-clause-shows g c = λ count is. c.tick.ensures.shows count (tick_spent c.tick.result count (sym c.of_tick.ensures ∙ is))
