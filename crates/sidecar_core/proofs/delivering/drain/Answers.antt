use Rattle.std.proofs.Common.{subst}
use Rattle.sidecar_objects.specs.Composed.{does_as}
use Rattle.sidecar_objects.specs.Pass.{cells_of, seats_of}
use Rattle.sidecar_turns.specs.Draining.{Drains}
use Rattle.sidecar_core.proofs.Brought.{are_of, shows_one}
use Rattle.sidecar_core.proofs.delivering.drain.Goals as goal

pub drain-requires-clause-cells : goal.drain-requires-clause-cells
drain-requires-clause-cells g c = let s = c.args.shared.now in are_of s.config (cells_of s.objects) s.brokers s.has_brokers s.ledgers s.plans s.breakers s.inbound

pub returns-clause-does : goal.returns-clause-does
returns-clause-does g c = does_as _ _ _ _ _ _ (λ events drains. subst (λ sites. Drains sites c.args.shared.now.config.subs c.args.began events c.drain.result) c.args.shared.now.has_brokers drains) c.drain.ensures.does

pub returns-clause-shows : goal.returns-clause-shows
returns-clause-shows g c = λ count is. shows_one c.args.shared.now.brokers (seats_of c.drain.new.pass) count (c.drain.ensures.shows count is)
