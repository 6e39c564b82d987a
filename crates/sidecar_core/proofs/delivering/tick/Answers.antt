use Rattle.std.proofs.Common.{subst}
use Rattle.sidecar_objects.specs.Composed.{does_as}
use Rattle.sidecar_objects.specs.Pass.{cells_of, seats_of}
use Rattle.sidecar_turns.specs.Ticking.{Ticks, tick_shows}
use Rattle.sidecar_core.proofs.Brought.{ticks_of}
use Rattle.sidecar_core.proofs.delivering.tick.Goals as goal

pub tick-requires-clause-cells : goal.tick-requires-clause-cells
tick-requires-clause-cells g c = let s = c.args.shared.now in ticks_of s.config (cells_of s.objects) s.crons s.has_crons s.periods s.breakers s.gates

pub returns-clause-does : goal.returns-clause-does
returns-clause-does g c = does_as _ _ _ _ _ _ (λ events ticks. subst (λ inputs. Ticks inputs events c.tick.result) c.args.shared.now.has_crons ticks) c.tick.ensures.does

pub returns-clause-shows : goal.returns-clause-shows
returns-clause-shows g c = λ count is. tick_shows c.args.shared.now.crons.crons (seats_of c.tick.new.pass) count (c.tick.ensures.shows count is)
