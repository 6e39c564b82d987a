use Rattle.std.proofs.Common.{subst}
use Rattle.sidecar_objects.specs.Composed.{does_as}
use Rattle.sidecar_objects.specs.Pass.{cells_of, seats_of}
use Rattle.sidecar_turns.specs.Taking.{TakesTicks}
use Rattle.sidecar_turns.specs.Ticking.{tick_shows}
use Rattle.sidecar_core.proofs.Brought.{ticks_of}
use Rattle.sidecar_core.proofs.delivering.take_ticks.Goals as goal

pub take_ticks-requires-clause-cells : goal.take_ticks-requires-clause-cells
take_ticks-requires-clause-cells g c = let s = c.args.shared.now in ticks_of s.config (cells_of s.objects) s.crons s.has_crons s.periods s.breakers s.gates

pub returns-clause-does : goal.returns-clause-does
returns-clause-does g c = does_as _ _ _ _ _ _ (λ events takes. subst (λ inputs. TakesTicks inputs events c.take_ticks.result) c.args.shared.now.has_crons takes) c.take_ticks.ensures.does

pub returns-clause-shows : goal.returns-clause-shows
returns-clause-shows g c = λ count is. tick_shows c.args.shared.now.crons.crons (seats_of c.take_ticks.new.pass) count (c.take_ticks.ensures.shows count is)
