use Rattle.sidecar_turns.specs.Delivering.{Delivers}
use Rattle.sidecar_turns.proofs.Paused.{waited}
use Rattle.sidecar_turns.proofs.draining.drain_once.Goals as goal

pub returns-in-Waiting-clause-does : goal.returns-in-Waiting-clause-does
returns-in-Waiting-clause-does g c = waited _ _ _ _ _ _ _ (Delivers c.args.duty.now.brokers.now c.args.duty.now.subs.now) c.args.duty.now.began c.in-Waiting.due c.deliver-turn.result _ c.deliver-turn.ensures.does c.in-Waiting.ensures c.pause_until.ensures
