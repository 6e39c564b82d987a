use Rattle.std.proofs.Common.{rules, arith, ◌==◌, not}
use Rattle.std.proofs.lemmas.List.{nil_from_length}
use Rattle.std.proofs.lemmas.Fn.{filter_same}
use Rattle.actor_turns.proofs.Keeping.{one_out, last_out, is_empty_from}
use Rattle.actor_turns.proofs.lines.leave.Goals as goal

pub returns-then-is_empty : goal.returns-then-is_empty
returns-then-is_empty c =
    let items = filter_same _ (λ other. not (other == c.args.ticket)) _ (λ x b f' k. search rules) _ _ c.retain.ensures.filtered in
    λ name. last_out c.args.lines.now (c.get_mut.follows.lender c.retain.new.self) c.remove.new.self c.args.actor.now c.in-Some.tickets.now c.retain.new.self c.args.ticket
    ((c.get_mut.follows.holds c.retain.new.self).3 (search rules)) (search rules) (search rules) items (nil_from_length _ (let none = is_empty_from _ _ c.is_empty.ensures c.if-is_empty.true in let sized = c.retain.new.self.ok in omega (arith, none, sized))) name

pub returns-else-is_empty : goal.returns-else-is_empty
returns-else-is_empty c =
    let items = filter_same _ (λ other. not (other == c.args.ticket)) _ (λ x b f' k. search rules) _ _ c.retain.ensures.filtered in
    λ name. one_out c.args.lines.now (c.get_mut.follows.lender c.retain.new.self) c.args.actor.now c.in-Some.tickets.now c.retain.new.self c.args.ticket
    ((c.get_mut.follows.holds c.retain.new.self).3 (search rules)) (search rules) items (search rules) name
