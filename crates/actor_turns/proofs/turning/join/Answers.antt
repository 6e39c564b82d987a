use Rattle.std.proofs.Common.{rules, arith, refl}
use Rattle.actor_turns.proofs.Coming.{has_joined}
use Rattle.actor_turns.proofs.turning.join.Goals as goal

pub returns-in-Ok : goal.returns-in-Ok
returns-in-Ok c = has_joined c.args.turns.now _ c.args.actor.now c.len-waiting.result c.len-waiting.ensures.len (search rules) refl refl c.in-Ok.ensures.ok
