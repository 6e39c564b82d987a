use Rattle.std.proofs.Common.{subst}
use Rattle.sidecar_objects.specs.Composed.{does_as}
use Rattle.sidecar_objects.specs.Pass.{cells_of, seats_of}
use Rattle.sidecar_turns.specs.Brokers.{Sites}
use Rattle.sidecar_turns.specs.Crons.{Inputs}
use Rattle.sidecar_turns.specs.Idling.{Idles, idle_shows}
use Rattle.sidecar_core.proofs.Brought.{are_of, ticks_of}
use Rattle.sidecar_core.proofs.delivering.idle_turn.Goals as goal

pub idle_turn-requires-clause-ticks : goal.idle_turn-requires-clause-ticks
idle_turn-requires-clause-ticks g c = let s = c.args.shared.now in ticks_of s.config (cells_of s.objects) s.crons s.has_crons s.periods s.breakers s.gates

pub idle_turn-requires-clause-cells : goal.idle_turn-requires-clause-cells
idle_turn-requires-clause-cells g c = let s = c.args.shared.now in are_of s.config (cells_of s.objects) s.brokers s.has_brokers s.ledgers s.plans s.breakers s.inbound

pub returns-clause-does : goal.returns-clause-does
returns-clause-does g c = does_as _ _ _ _ _ _ (λ events idles. subst (λ (z : Inputs × Sites). Idles z.0 z.1 c.args.shared.now.config.subs events c.idle_turn.result) (λ i. (c.args.shared.now.has_crons i, c.args.shared.now.has_brokers i)) idles) c.idle_turn.ensures.does

pub returns-clause-shows : goal.returns-clause-shows
returns-clause-shows g c = λ count is. idle_shows c.args.shared.now.crons.crons c.args.shared.now.brokers.inbound (seats_of c.idle_turn.new.pass) count (c.idle_turn.ensures.shows count is)
