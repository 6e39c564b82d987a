use Rattle.std.proofs.Common.{rules, ◌≡◌, ◌++◌, ◌∷◌, [], ℕ, List, cond, bytes_eq, subst}
use Rattle.actor_turns.specs.Lines.{line_at, tickets_at, line}
use Rattle.actor_turns.proofs.Keeping.{one_behind, first_line, as_before, on_err}
use Rattle.actor_turns.proofs.lines.enter.Goals as goal

pub returns-in_err-push-in-Some-clause-err : goal.returns-in_err-push-in-Some-clause-err
returns-in_err-push-in-Some-clause-err c = on_err c.from_residual.result _ (λ name. as_before c.args.lines.now (c.get_mut.follows.lender c.push.new.self) c.as_str.result.now c.in-Some.tickets.now c.push.new.self ((c.get_mut.follows.holds c.push.new.self).3 (search rules)) (search rules) (search rules) name)

pub returns-in_ok-push-in-Some-clause-ok : goal.returns-in_ok-push-in-Some-clause-ok
returns-in_ok-push-in-Some-clause-ok c = subst (λ a. (name : List ℕ) → line_at (c.get_mut.follows.lender c.push.new.self) name ≡ cond (bytes_eq a name) (line (tickets_at c.args.lines.now a ++ c.args.ticket ∷ [])) (line_at c.args.lines.now name)) c.as_str.ensures.value
    (λ name. one_behind c.args.lines.now (c.get_mut.follows.lender c.push.new.self) c.as_str.result.now c.in-Some.tickets.now c.push.new.self c.args.ticket ((c.get_mut.follows.holds c.push.new.self).3 (search rules)) (search rules) (search rules) name)

pub returns-in_ok-insert-in-None-clause-ok : goal.returns-in_ok-insert-in-None-clause-ok
returns-in_ok-insert-in-None-clause-ok c = λ name. first_line c.args.lines.now c.insert.new.self c.args.actor.now c.push-in-None.new.self c.args.ticket (search rules) (search rules) (search rules) name
