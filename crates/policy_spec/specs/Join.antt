-- What is bound by the files that were read before, and by one more.
use Rattle.std.specs.Prelude.{◌≡◌, ℕ, ◌+◌, List, ◌++◌, length, find, Option, Some, None, is_some, IsSome, option_map, Result, Ok, Err}
use Rattle.std.specs.Map.{keys_of}
use Rattle.std.specs.Option.{option_or}
use Rattle.retry_core.specs.declared.policy.Bound.{Bound}
use Rattle.policy_spec.specs.declared.policy_err.PolicyErr.{PolicyErr}
use Rattle.policy_spec.specs.declared.policy_err.PolicyErr.TheVariants.{Missing, Wrong, NoSuchPolicy, Repeated, NoMemory}
use Rattle.policy_spec.specs.Named.{under, AreNames}
use Rattle.policy_spec.specs.Policies.{Aim, Binding, named_bound}

-- the first name of a later table under which something stands in the earlier one too
abbrev pub first_in_both : {V : Type 0} → List (List ℕ × V) → List (List ℕ × V) → Option (List ℕ)
first_in_both earlier later = find (λ (name : List ℕ). is_some (under name earlier)) (keys_of later)

-- the name of the first target that both bind: an app, or else a component outbound, or else one inbound
abbrev pub first_repeated : Binding → Binding → Option (List ℕ)
first_repeated earlier later = option_or (first_in_both earlier.apps later.apps) (option_or (first_in_both earlier.outbound later.outbound) (first_in_both earlier.inbound later.inbound))

-- a bound whose breaker stands so many places further on
abbrev pub moved : ℕ → Bound → Bound
moved count bound = record { timeout_ms = bound.timeout_ms; retry = bound.retry; breaker = option_map (λ place. place + count) bound.breaker }

-- under each name stands what the later table has there, moved so far, or else what the earlier one has
abbrev pub HasBoth : ℕ → List (List ℕ × Bound) → List (List ℕ × Bound) → List (List ℕ × Bound) → Type 0
HasBoth count earlier later both = (name : List ℕ) → under name both ≡ option_or (option_map (moved count) (under name later)) (under name earlier)

-- a refusal: this name is repeated, or memory is wanted
abbrev pub IsRefused : PolicyErr → Option (List ℕ) → Type 0
IsRefused (Missing doc field) repeated = ⊥
IsRefused (Wrong doc field) repeated = ⊥
IsRefused (NoSuchPolicy name) repeated = ⊥
IsRefused (Repeated name) repeated = repeated ≡ Some name
IsRefused NoMemory repeated = Unit {0}

-- a table of both, of which no name stands in the two
pub record IsTable (count : ℕ) (earlier later both : List (List ℕ × Bound)) : Type 0 where
  pub apart : first_in_both earlier later ≡ None
  pub has : HasBoth count earlier later both
  pub names : AreNames both

abbrev pub IsTableOf : ℕ → List (List ℕ × Bound) → List (List ℕ × Bound) → Result (List (List ℕ × Bound)) PolicyErr → Type 0
IsTableOf count earlier later (Ok both) = IsTable count earlier later both
IsTableOf count earlier later (Err e) = IsRefused e (first_in_both earlier later)

-- what is bound by both, of which no target is bound by the two: the later's breakers stand behind the earlier's, and a target
-- has what the one that names it binds to it
pub record IsBoth (earlier later both : Binding) : Type 0 where
  pub apart : first_repeated earlier later ≡ None
  pub once : (aim : Aim) → IsSome (named_bound earlier aim) → named_bound later aim ≡ None
  pub breakers : both.breakers ≡ earlier.breakers ++ later.breakers
  pub bound : (aim : Aim) → named_bound both aim ≡ option_or (option_map (moved (length earlier.breakers)) (named_bound later aim)) (named_bound earlier aim)

-- what is bound after the join of a later one: by both, or what was bound, where a target is bound by the two
abbrev pub IsJoin : Result (Unit {0}) PolicyErr → Binding → Binding → Binding → Type 0
IsJoin (Ok done) earlier later new = IsBoth earlier later new
IsJoin (Err e) earlier later new = IsRefused e (first_repeated earlier later) × (new ≡ earlier)
