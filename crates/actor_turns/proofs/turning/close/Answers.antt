use Rattle.std.proofs.Common.{rules, refl, subst}
use Rattle.actor_turns.proofs.Coming.{has_left}
use Rattle.actor_turns.proofs.turning.close.Goals as goal

pub returns-in-Some : goal.returns-in-Some
returns-in-Some c = has_left c.args.turns.now _ c.args.ticket c.as_str.result.now (search rules) c.remove.ensures.updates (search rules) c.leave.ensures refl refl
