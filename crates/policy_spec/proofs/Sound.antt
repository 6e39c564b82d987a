-- What is bound stays within its limits where one more target is bound.
use Rattle.std.proofs.Common.{◌≡◌, ◌∙◌, ◌⊎◌, inl, inr, ◌≤◌, ap, refl, sym, subst, arith, ℕ, List, [], length, length-append, append-nil, Option, Some, None}
use Rattle.std.proofs.lemmas.List.Elements.{All-push}
use Rattle.std.specs.List.{All, IsDistinct}
use Rattle.std.specs.List.Sorted.{IsStrictlySortedBy}
use Rattle.std.specs.Cmp.Lexicographic.{slice_cmp}
use Rattle.std.specs.Ordering.{nat_cmp}
use Rattle.std.specs.Option.{ForSome}
use Rattle.std.specs.Prelude.{bytes_eq, option_to_list, ◌++◌}
use Rattle.retry_core.specs.declared.policy.Bound.{Bound}
use Rattle.retry_core.specs.declared.policy.BreakerPolicy.{BreakerPolicy}
use Rattle.retry_core.specs.Bound.{IsWithinLimit}
use Rattle.retry_core.specs.BreakerPolicy.{IsWithinLimit as IsBreakerWithinLimit}
use Rattle.policy_spec.specs.Named.{under, AreNames}
use Rattle.policy_spec.specs.Policies.{Aim, app, outbound, inbound, Binding, named_bound, IsBoundWithin, IsSound}
use Rattle.policy_spec.specs.Resiliency.{place_for}

pub grown : (count more : ℕ) → count ≤ more → (x : Bound) → IsBoundWithin count x → IsBoundWithin more x
grown count more le x w = record { limit = w.limit; place = λ place e. omega (arith, w.place place e, le) }

none_is : (x : Bound) → None ≡ Some x → ⊥
none_is x e = cc

place_is : (o : Option ℕ) (a b : ℕ) → o ≡ Some a → o ≡ Some b → b ≡ a
place_is o a b x y = cc

place_not : (o : Option ℕ) (b : ℕ) → o ≡ None → o ≡ Some b → ⊥
place_not o b x y = cc

no_names_rise : IsStrictlySortedBy (slice_cmp nat_cmp) []
unfolding IsStrictlySortedBy
no_names_rise = tt

no_names_differ : IsDistinct bytes_eq []
unfolding IsDistinct
no_names_differ = tt

no_names : AreNames {V = Bound} []
no_names = record { rise = no_names_rise; differ = no_names_differ }

-- nothing is bound
nothing_sound : IsSound (record { apps = []; outbound = []; inbound = []; breakers = [] })
nothing_sound = record { bounds = none_bound; names = record { apps = no_names; outbound = no_names; inbound = no_names }; limits = λ k d below. absurd (omega (arith, below)) }
  where
    none_bound : (aim : Aim) → ForSome (named_bound (record { apps = []; outbound = []; inbound = []; breakers = [] }) aim) (IsBoundWithin 0)
    none_bound (app id) x e = absurd (none_is x e)
    none_bound (outbound name) x e = absurd (none_is x e)
    none_bound (inbound name) x e = absurd (none_is x e)

pub empty_sound : (a o i : List (List ℕ × Bound)) (b : List BreakerPolicy) → a ≡ [] → o ≡ [] → i ≡ [] → b ≡ [] → IsSound (record { apps = a; outbound = o; inbound = i; breakers = b })
empty_sound a o i b no_apps no_outbound no_inbound no_breakers =
    subst (λ t. IsSound (record { apps = t; outbound = o; inbound = i; breakers = b })) (sym no_apps)
    (subst (λ t. IsSound (record { apps = []; outbound = t; inbound = i; breakers = b })) (sym no_outbound)
    (subst (λ t. IsSound (record { apps = []; outbound = []; inbound = t; breakers = b })) (sym no_inbound)
    (subst (λ t. IsSound (record { apps = []; outbound = []; inbound = []; breakers = t })) (sym no_breakers) nothing_sound)))

-- each breaker is within its limit where one more is
pub limited : (old new : List BreakerPolicy) (b : Option BreakerPolicy) → All IsBreakerWithinLimit old → ForSome b IsBreakerWithinLimit → new ≡ old ++ option_to_list b → All IsBreakerWithinLimit new
limited old new None all one e = subst (All IsBreakerWithinLimit) (sym (e ∙ append-nil old)) all
limited old new (Some breaker) all one e = subst (All IsBreakerWithinLimit) (sym e) (All-push IsBreakerWithinLimit old breaker all (one breaker refl))

-- a bound whose breaker is the one that was added
pub placed : (old new : List BreakerPolicy) (b : Option BreakerPolicy) (bound : Bound) → IsWithinLimit bound → bound.breaker ≡ place_for (length old) b → new ≡ old ++ option_to_list b → IsBoundWithin (length new) bound
placed old new None bound limit place e = record { limit = limit; place = λ p is. absurd (place_not bound.breaker p place is) }
placed old new (Some breaker) bound limit place e = record { limit = limit; place = λ p is. omega (arith, place_is bound.breaker (length old) p place is, ap length e, length-append old (option_to_list (Some breaker))) }

module _ (b : Binding) (table : List (List ℕ × Bound)) (breakers : List BreakerPolicy) (bound : Bound) (sound : IsSound b) (le : length b.breakers ≤ length breakers) (limits : All IsBreakerWithinLimit breakers) (names : AreNames table) (within : IsBoundWithin (length breakers) bound) where
  either : (aim : Aim) (x : Bound) → (named_bound b aim ≡ Some x) ⊎ (x ≡ bound) → IsBoundWithin (length breakers) x
  either aim x (inl old) = grown (length b.breakers) (length breakers) le x (sound.bounds aim x old)
  either aim x (inr new) = subst (IsBoundWithin (length breakers)) (sym new) within

  bounds_app : ((other : List ℕ) (x : Bound) → under other table ≡ Some x → (under other b.apps ≡ Some x) ⊎ (x ≡ bound)) → (aim : Aim) → ForSome (named_bound (record { apps = table; outbound = b.outbound; inbound = b.inbound; breakers = breakers }) aim) (IsBoundWithin (length breakers))
  bounds_app kept (app id) x e = either (app id) x (kept id x e)
  bounds_app kept (outbound name) x e = either (outbound name) x (inl e)
  bounds_app kept (inbound name) x e = either (inbound name) x (inl e)

  pub sound_app : ((other : List ℕ) (x : Bound) → under other table ≡ Some x → (under other b.apps ≡ Some x) ⊎ (x ≡ bound)) → IsSound (record { apps = table; outbound = b.outbound; inbound = b.inbound; breakers = breakers })
  sound_app kept = record { bounds = bounds_app kept; names = record { apps = names; outbound = sound.names.outbound; inbound = sound.names.inbound }; limits = limits }

  bounds_outbound : ((other : List ℕ) (x : Bound) → under other table ≡ Some x → (under other b.outbound ≡ Some x) ⊎ (x ≡ bound)) → (aim : Aim) → ForSome (named_bound (record { apps = b.apps; outbound = table; inbound = b.inbound; breakers = breakers }) aim) (IsBoundWithin (length breakers))
  bounds_outbound kept (app id) x e = either (app id) x (inl e)
  bounds_outbound kept (outbound name) x e = either (outbound name) x (kept name x e)
  bounds_outbound kept (inbound name) x e = either (inbound name) x (inl e)

  pub sound_outbound : ((other : List ℕ) (x : Bound) → under other table ≡ Some x → (under other b.outbound ≡ Some x) ⊎ (x ≡ bound)) → IsSound (record { apps = b.apps; outbound = table; inbound = b.inbound; breakers = breakers })
  sound_outbound kept = record { bounds = bounds_outbound kept; names = record { apps = sound.names.apps; outbound = names; inbound = sound.names.inbound }; limits = limits }

  bounds_inbound : ((other : List ℕ) (x : Bound) → under other table ≡ Some x → (under other b.inbound ≡ Some x) ⊎ (x ≡ bound)) → (aim : Aim) → ForSome (named_bound (record { apps = b.apps; outbound = b.outbound; inbound = table; breakers = breakers }) aim) (IsBoundWithin (length breakers))
  bounds_inbound kept (app id) x e = either (app id) x (inl e)
  bounds_inbound kept (outbound name) x e = either (outbound name) x (inl e)
  bounds_inbound kept (inbound name) x e = either (inbound name) x (kept name x e)

  pub sound_inbound : ((other : List ℕ) (x : Bound) → under other table ≡ Some x → (under other b.inbound ≡ Some x) ⊎ (x ≡ bound)) → IsSound (record { apps = b.apps; outbound = b.outbound; inbound = table; breakers = breakers })
  sound_inbound kept = record { bounds = bounds_inbound kept; names = record { apps = sound.names.apps; outbound = sound.names.outbound; inbound = names }; limits = limits }
