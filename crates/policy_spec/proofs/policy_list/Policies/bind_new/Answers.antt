use Rattle.std.proofs.Common.{◌≡◌, ◌∙◌, ◌≤◌, ap, sym, arith, length, length-append}
use Rattle.std.specs.Prelude.{option_to_list, ◌++◌}
use Rattle.std.specs.List.{All}
use Rattle.retry_core.specs.BreakerPolicy.{IsWithinLimit as IsBreakerWithinLimit}
use Rattle.retry_core.specs.declared.policy.Bound.{Bound}
use Rattle.policy_spec.specs.Resiliency.{place_for, breaker_of}
use Rattle.policy_spec.specs.Policies.{Binding, IsBoundWithin}
use Rattle.policy_spec.proofs.Sound.{placed, limited, sound_app, sound_outbound, sound_inbound}
use Rattle.policy_spec.proofs.policy_list.Policies.bind_new.Goals as goal

pub invariant_of-self-in-App : goal.invariant_of-self-in-App
invariant_of-self-in-App c =
    let inside : Binding = record { apps = c.self.inside.apps; outbound = c.self.inside.outbound; inbound = c.self.inside.inbound; breakers = c.self.inside.breakers } in
    let grown : c.push_breaker.new.breakers ≡ c.self.inside.breakers ++ option_to_list c.bound_of-breaker.result.1 = c.in_ok-push_breaker.ensures.ok in
    let more : length c.self.inside.breakers ≤ length c.push_breaker.new.breakers = omega (arith, ap length grown, length-append c.self.inside.breakers (option_to_list c.bound_of-breaker.result.1)) in
    let place : c.bound_of-breaker.result.0.breaker ≡ place_for (length c.self.inside.breakers) c.bound_of-breaker.result.1 = ap (λ (b : Bound). b.breaker) c.bound_of-breaker.ensures.exact ∙ ap (λ n. place_for n (breaker_of c.args.choice.breaker)) c.len-place.ensures ∙ ap (place_for (length c.self.inside.breakers)) (sym c.bound_of-breaker.ensures.breaker) in
    let limits : All IsBreakerWithinLimit c.push_breaker.new.breakers = limited c.self.inside.breakers c.push_breaker.new.breakers c.bound_of-breaker.result.1 c.self.invariant.limits c.bound_of-breaker.ensures.limit grown in
    let within : IsBoundWithin (length c.push_breaker.new.breakers) c.bound_of-breaker.result.0 = placed c.self.inside.breakers c.push_breaker.new.breakers c.bound_of-breaker.result.1 c.bound_of-breaker.result.0 c.bound_of-breaker.ensures.within place grown in
    sound_app inside c.put_bound.new.table c.push_breaker.new.breakers c.bound_of-breaker.result.0 c.self.invariant more limits c.put_bound.ensures.names within c.put_bound.ensures.kept

pub invariant_of-self-in-Outbound : goal.invariant_of-self-in-Outbound
invariant_of-self-in-Outbound c =
    let inside : Binding = record { apps = c.self.inside.apps; outbound = c.self.inside.outbound; inbound = c.self.inside.inbound; breakers = c.self.inside.breakers } in
    let grown : c.push_breaker.new.breakers ≡ c.self.inside.breakers ++ option_to_list c.bound_of-breaker.result.1 = c.in_ok-push_breaker.ensures.ok in
    let more : length c.self.inside.breakers ≤ length c.push_breaker.new.breakers = omega (arith, ap length grown, length-append c.self.inside.breakers (option_to_list c.bound_of-breaker.result.1)) in
    let place : c.bound_of-breaker.result.0.breaker ≡ place_for (length c.self.inside.breakers) c.bound_of-breaker.result.1 = ap (λ (b : Bound). b.breaker) c.bound_of-breaker.ensures.exact ∙ ap (λ n. place_for n (breaker_of c.args.choice.breaker)) c.len-place.ensures ∙ ap (place_for (length c.self.inside.breakers)) (sym c.bound_of-breaker.ensures.breaker) in
    let limits : All IsBreakerWithinLimit c.push_breaker.new.breakers = limited c.self.inside.breakers c.push_breaker.new.breakers c.bound_of-breaker.result.1 c.self.invariant.limits c.bound_of-breaker.ensures.limit grown in
    let within : IsBoundWithin (length c.push_breaker.new.breakers) c.bound_of-breaker.result.0 = placed c.self.inside.breakers c.push_breaker.new.breakers c.bound_of-breaker.result.1 c.bound_of-breaker.result.0 c.bound_of-breaker.ensures.within place grown in
    sound_outbound inside c.put_bound-in-Outbound.new.table c.push_breaker.new.breakers c.bound_of-breaker.result.0 c.self.invariant more limits c.put_bound-in-Outbound.ensures.names within c.put_bound-in-Outbound.ensures.kept

pub invariant_of-self-in-Inbound : goal.invariant_of-self-in-Inbound
invariant_of-self-in-Inbound c =
    let inside : Binding = record { apps = c.self.inside.apps; outbound = c.self.inside.outbound; inbound = c.self.inside.inbound; breakers = c.self.inside.breakers } in
    let grown : c.push_breaker.new.breakers ≡ c.self.inside.breakers ++ option_to_list c.bound_of-breaker.result.1 = c.in_ok-push_breaker.ensures.ok in
    let more : length c.self.inside.breakers ≤ length c.push_breaker.new.breakers = omega (arith, ap length grown, length-append c.self.inside.breakers (option_to_list c.bound_of-breaker.result.1)) in
    let place : c.bound_of-breaker.result.0.breaker ≡ place_for (length c.self.inside.breakers) c.bound_of-breaker.result.1 = ap (λ (b : Bound). b.breaker) c.bound_of-breaker.ensures.exact ∙ ap (λ n. place_for n (breaker_of c.args.choice.breaker)) c.len-place.ensures ∙ ap (place_for (length c.self.inside.breakers)) (sym c.bound_of-breaker.ensures.breaker) in
    let limits : All IsBreakerWithinLimit c.push_breaker.new.breakers = limited c.self.inside.breakers c.push_breaker.new.breakers c.bound_of-breaker.result.1 c.self.invariant.limits c.bound_of-breaker.ensures.limit grown in
    let within : IsBoundWithin (length c.push_breaker.new.breakers) c.bound_of-breaker.result.0 = placed c.self.inside.breakers c.push_breaker.new.breakers c.bound_of-breaker.result.1 c.bound_of-breaker.result.0 c.bound_of-breaker.ensures.within place grown in
    sound_inbound inside c.put_bound-in-Inbound.new.table c.push_breaker.new.breakers c.bound_of-breaker.result.0 c.self.invariant more limits c.put_bound-in-Inbound.ensures.names within c.put_bound-in-Inbound.ensures.kept
