-- What resiliency documents bind to which targets.
use Rattle.std.specs.Prelude.{ℕ, ◌<◌, List, length, Option, None, unwrap_or}
use Rattle.std.specs.List.{All}
use Rattle.std.specs.Option.{ForSome}
use Rattle.retry_core.specs.declared.policy.Bound.{Bound}
use Rattle.retry_core.specs.declared.policy.BreakerPolicy.{BreakerPolicy}
use Rattle.retry_core.specs.Bound.{IsWithinLimit}
use Rattle.retry_core.specs.BreakerPolicy.{IsWithinLimit as IsBreakerWithinLimit}
use Rattle.policy_spec.specs.declared.target.Target.{Target}
use Rattle.policy_spec.specs.declared.target.Target.TheVariants as targets
use Rattle.policy_spec.specs.Named.{under, AreNames}

-- whose calls something is bound to: an app's, those that are sent to a component, or those that come from one
pub data Aim : Type 0 where
  app : List ℕ → Aim
  outbound : List ℕ → Aim
  inbound : List ℕ → Aim

abbrev pub aim_of : Target → Aim
aim_of (targets.App id) = app id.now
aim_of (targets.Outbound name) = outbound name.now
aim_of (targets.Inbound name) = inbound name.now

-- what is bound to the apps and components that are named, and the breakers, one for each target that names one
pub record Binding : Type 0 where
  pub apps : List (List ℕ × Bound)
  pub outbound : List (List ℕ × Bound)
  pub inbound : List (List ℕ × Bound)
  pub breakers : List BreakerPolicy

-- what is bound to a target, if it is named
abbrev pub named_bound : Binding → Aim → Option Bound
named_bound policies (app id) = under id policies.apps
named_bound policies (outbound name) = under name policies.outbound
named_bound policies (inbound name) = under name policies.inbound

abbrev pub nothing : Bound
nothing = record { timeout_ms = None; retry = None; breaker = None }

-- what is bound to a target: nothing where it isn't named
abbrev pub bound_by : Binding → Aim → Bound
bound_by policies aim = unwrap_or (named_bound policies aim) nothing

-- durations are within their limit, and a breaker is one of so many
pub record IsBoundWithin (count : ℕ) (bound : Bound) : Type 0 where
  pub limit : IsWithinLimit bound
  pub place : ForSome bound.breaker (λ place. place < count)

-- no app is named twice, and no component in one direction
pub record AreNamedOnce (policies : Binding) : Type 0 where
  pub apps : AreNames policies.apps
  pub outbound : AreNames policies.outbound
  pub inbound : AreNames policies.inbound

-- targets are named once, what is bound is within its limits, its breaker one of the list, and so is each breaker's policy
pub record IsSound (policies : Binding) : Type 0 where
  pub bounds : (aim : Aim) → ForSome (named_bound policies aim) (IsBoundWithin (length policies.breakers))
  pub names : AreNamedOnce policies
  pub limits : All IsBreakerWithinLimit policies.breakers
