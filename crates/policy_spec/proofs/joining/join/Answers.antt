use Rattle.std.proofs.Common.{subst, ℕ}
use Rattle.policy_spec.specs.Policies.{Binding}
use Rattle.policy_spec.specs.Join.{IsTable, IsBoth}
use Rattle.policy_spec.proofs.Joined.{joined_sound, joined_both}
use Rattle.policy_spec.proofs.joining.join.Goals as goal

pub invariant_of-one : goal.invariant_of-one
invariant_of-one c =
    let earlier : Binding = record { apps = c.one.inside.apps; outbound = c.one.inside.outbound; inbound = c.one.inside.inbound; breakers = c.one.inside.breakers } in
    let later : Binding = record { apps = c.more.inside.apps; outbound = c.more.inside.outbound; inbound = c.more.inside.inbound; breakers = c.more.inside.breakers } in
    joined_sound earlier later c.in-Ok.apps c.in-Ok-table_of_both.outbound c.in-Ok-table_of_both-2.inbound c.append.new.breakers c.one.invariant c.more.invariant
    (subst (λ (n : ℕ). IsTable n c.one.inside.apps c.more.inside.apps c.in-Ok.apps) c.len-count.ensures c.in-Ok.ensures)
    (subst (λ (n : ℕ). IsTable n c.one.inside.outbound c.more.inside.outbound c.in-Ok-table_of_both.outbound) c.len-count.ensures c.in-Ok-table_of_both.ensures)
    (subst (λ (n : ℕ). IsTable n c.one.inside.inbound c.more.inside.inbound c.in-Ok-table_of_both-2.inbound) c.len-count.ensures c.in-Ok-table_of_both-2.ensures)
    c.in-Ok-append.ensures.ok

pub returns-in-Ok-append : goal.returns-in-Ok-append
returns-in-Ok-append c =
    let earlier : Binding = record { apps = c.one.inside.apps; outbound = c.one.inside.outbound; inbound = c.one.inside.inbound; breakers = c.one.inside.breakers } in
    let later : Binding = record { apps = c.more.inside.apps; outbound = c.more.inside.outbound; inbound = c.more.inside.inbound; breakers = c.more.inside.breakers } in
    let both : Binding = record { apps = c.in-Ok.apps; outbound = c.in-Ok-table_of_both.outbound; inbound = c.in-Ok-table_of_both-2.inbound; breakers = c.append.new.breakers } in
    subst (λ (b : Binding). IsBoth b c.args.more both) c.one.view_is
    (subst (λ (b : Binding). IsBoth earlier b both) c.more.view_is
    (joined_both earlier later c.in-Ok.apps c.in-Ok-table_of_both.outbound c.in-Ok-table_of_both-2.inbound c.append.new.breakers c.one.invariant c.more.invariant
    (subst (λ (n : ℕ). IsTable n c.one.inside.apps c.more.inside.apps c.in-Ok.apps) c.len-count.ensures c.in-Ok.ensures)
    (subst (λ (n : ℕ). IsTable n c.one.inside.outbound c.more.inside.outbound c.in-Ok-table_of_both.outbound) c.len-count.ensures c.in-Ok-table_of_both.ensures)
    (subst (λ (n : ℕ). IsTable n c.one.inside.inbound c.more.inside.inbound c.in-Ok-table_of_both-2.inbound) c.len-count.ensures c.in-Ok-table_of_both-2.ensures)
    c.in-Ok-append.ensures.ok))
