-- What is bound where that of a later file is joined to it: no target by the two, and all within the limits.
use Rattle.std.proofs.Common.{◌≡◌, ◌∙◌, ◌+◌, ◌<◌, ap, refl, sym, subst, arith, ℕ, Bool, true, false, cond, List, [], ◌∷◌, length, length-append, Option, Some, None}
use Rattle.std.specs.Prelude.{option_map, is_some, IsSome, bytes_eq, ◌++◌}
use Rattle.std.specs.List.{All}
use Rattle.std.specs.Option.{ForSome, option_or}
use Rattle.std.proofs.lemmas.List.Elements.{All-append}
use Rattle.std.proofs.lemmas.Slice.Eq.{bytes_eq-Decides}
use Rattle.retry_core.specs.declared.policy.Bound.{Bound}
use Rattle.retry_core.specs.declared.policy.BreakerPolicy.{BreakerPolicy}
use Rattle.retry_core.specs.BreakerPolicy.{IsWithinLimit as IsBreakerWithinLimit}
use Rattle.policy_spec.specs.Named.{under}
use Rattle.policy_spec.specs.Policies.{Aim, app, outbound, inbound, Binding, named_bound, IsBoundWithin, IsSound}
use Rattle.policy_spec.specs.Join.{first_in_both, moved, IsTable, IsBoth}
use Rattle.policy_spec.proofs.Sound.{grown}

some_is : {T : Type 0} (x y : T) → Some x ≡ Some y → y ≡ x
some_is x y e = cc

none_or : {T : Type 0} (x y z : Option T) → x ≡ None → y ≡ None → z ≡ None → option_or x (option_or y z) ≡ None
none_or x y z no_x no_y no_z = ap (λ o. option_or o (option_or y z)) no_x ∙ ap (λ o. option_or o z) no_y ∙ no_z

-- where no name passes, the first does not, and none behind it
none_passes : (passes : Bool) (first : List ℕ) (behind : Option (List ℕ)) → cond passes (Some first) behind ≡ None → (passes ≡ false) × (behind ≡ None)
none_passes true first behind e = absurd (none_is first (sym e))
  where
    none_is : (name : List ℕ) → None ≡ Some name → ⊥
    none_is name e = cc
none_passes false first behind e = (refl, e)

-- where no name of the later table stands in the earlier one, what stands in the earlier one does not in the later
under_one : (earlier later : List (List ℕ × Bound)) → first_in_both earlier later ≡ None → (name : List ℕ) → IsSome (under name earlier) → under name later ≡ None
under_one earlier [] none name some = refl
under_one earlier (e ∷ later) none name some = by_name (λ others. under_one earlier later others name some) (bytes_eq name e.0) refl
  where
    parts : (is_some (under e.0 earlier) ≡ false) × (first_in_both earlier later ≡ None)
    parts = none_passes (is_some (under e.0 earlier)) e.0 (first_in_both earlier later) none

    is_other : true ≡ false → ⊥
    is_other e = cc

    by_name : (first_in_both earlier later ≡ None → under name later ≡ None) → (same : Bool) → bytes_eq name e.0 ≡ same → cond same (Some e.1) (under name later) ≡ None
    by_name behind true is = absurd (is_other (sym some ∙ ap (λ (n : List ℕ). is_some (under n earlier)) ((bytes_eq-Decides name e.0).0 is) ∙ parts.0))
    by_name behind false is = behind parts.1

place_moved : (n m : ℕ) (breaker : Option ℕ) → ForSome breaker (λ place. place < m) → ForSome (option_map (λ place. place + n) breaker) (λ place. place < n + m)
place_moved n m None within place e = omega (arith, within place e)
place_moved n m (Some before) within place e = omega (arith, within before refl, some_is (before + n) place e)

moved_within : (n m : ℕ) (x : Bound) → IsBoundWithin m x → IsBoundWithin (n + m) (moved n x)
moved_within n m x within = record { limit = within.limit; place = place_moved n m x.breaker within.place }

-- what either binds is within the limits of both
either_within : (n m : ℕ) (later earlier : Option Bound) → ForSome later (IsBoundWithin m) → ForSome earlier (IsBoundWithin n) → ForSome (option_or (option_map (moved n) later) earlier) (IsBoundWithin (n + m))
either_within n m (Some y) earlier l e x is = subst (IsBoundWithin (n + m)) (sym (some_is (moved n y) x is)) (moved_within n m y (l y refl))
either_within n m None earlier l e x is = grown n (n + m) (omega arith) x (e x is)

module _ (earlier later : Binding) (apps outbound_ones inbound_ones : List (List ℕ × Bound)) (breakers : List BreakerPolicy) (e : IsSound earlier) (l : IsSound later) (a : IsTable (length earlier.breakers) earlier.apps later.apps apps) (o : IsTable (length earlier.breakers) earlier.outbound later.outbound outbound_ones) (i : IsTable (length earlier.breakers) earlier.inbound later.inbound inbound_ones) (is : breakers ≡ earlier.breakers ++ later.breakers) where
  counted : length earlier.breakers + length later.breakers ≡ length breakers
  counted = omega (arith, ap length is, length-append earlier.breakers later.breakers)

  either : (aim : Aim) (x : Bound) → option_or (option_map (moved (length earlier.breakers)) (named_bound later aim)) (named_bound earlier aim) ≡ Some x → IsBoundWithin (length breakers) x
  either aim x found = subst (λ n. IsBoundWithin n x) counted (either_within (length earlier.breakers) (length later.breakers) (named_bound later aim) (named_bound earlier aim) (l.bounds aim) (e.bounds aim) x found)

  bounds : (aim : Aim) → ForSome (named_bound (record { apps = apps; outbound = outbound_ones; inbound = inbound_ones; breakers = breakers }) aim) (IsBoundWithin (length breakers))
  bounds (app id) x found = either (app id) x (sym (a.has id) ∙ found)
  bounds (outbound name) x found = either (outbound name) x (sym (o.has name) ∙ found)
  bounds (inbound name) x found = either (inbound name) x (sym (i.has name) ∙ found)

  pub joined_sound : IsSound (record { apps = apps; outbound = outbound_ones; inbound = inbound_ones; breakers = breakers })
  joined_sound = record {
    bounds = bounds;
    names = record { apps = a.names; outbound = o.names; inbound = i.names };
    limits = subst (All IsBreakerWithinLimit) (sym is) (All-append IsBreakerWithinLimit earlier.breakers later.breakers e.limits l.limits);
  }

  once : (aim : Aim) → IsSome (named_bound earlier aim) → named_bound later aim ≡ None
  once (app id) = under_one earlier.apps later.apps a.apart id
  once (outbound name) = under_one earlier.outbound later.outbound o.apart name
  once (inbound name) = under_one earlier.inbound later.inbound i.apart name

  bound : (aim : Aim) → named_bound (record { apps = apps; outbound = outbound_ones; inbound = inbound_ones; breakers = breakers }) aim ≡ option_or (option_map (moved (length earlier.breakers)) (named_bound later aim)) (named_bound earlier aim)
  bound (app id) = a.has id
  bound (outbound name) = o.has name
  bound (inbound name) = i.has name

  pub joined_both : IsBoth earlier later (record { apps = apps; outbound = outbound_ones; inbound = inbound_ones; breakers = breakers })
  joined_both = record {
    apart = none_or (first_in_both earlier.apps later.apps) (first_in_both earlier.outbound later.outbound) (first_in_both earlier.inbound later.inbound) a.apart o.apart i.apart;
    once = once;
    breakers = is;
    bound = bound;
  }
