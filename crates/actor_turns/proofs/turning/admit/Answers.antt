use Rattle.std.proofs.Common.{rules, subst}
use Rattle.actor_turns.proofs.Keeping.{on_err}
use Rattle.actor_turns.proofs.Coming.{admitted, undone}
use Rattle.actor_turns.proofs.turning.admit.Goals as goal

pub returns-in-Ok-clause-ok : goal.returns-in-Ok-clause-ok
returns-in-Ok-clause-ok c = λ held kept free. admitted held c.args.actors.now c.args.lines.now kept c.args.ticket c.args.actor.now free c.insert.new.self c.enter.new.lines (search rules) (search rules) (search rules)

pub returns-in-Err-clause-err : goal.returns-in-Err-clause-err
returns-in-Err-clause-err c = λ held kept free. undone held c.args.actors.now c.args.lines.now kept c.args.ticket c.args.actor.now free c.insert.new.self c.remove.new.self c.enter.new.lines (search rules) (search rules) (search rules) (search rules) (search rules)
