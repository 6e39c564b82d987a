-- A state call over the objects: the events of its attempts, at the places of its store and its breaker.
use Rattle.std.specs.Prelude.{◌≡◌, ◌⊎◌, ℕ, List, map, Some, Result, unwrap_or}
use Rattle.turn_cell.specs.Sitting.{Sitting}
use Rattle.turn_cell.specs.declared.error.ApiErr.{ApiErr}
use Rattle.retry_core.specs.declared.policy.Bound.{Bound}
use Rattle.state_core.specs.declared.command.Cmd.{Cmd}
use Rattle.state_core.specs.History.{Step}
use Rattle.policy_run.specs.Event.{Event}
use Rattle.policy_run.specs.Attempts.{Attempts}
use Rattle.policy_run.specs.declared.outcome.Outcome.{Outcome}
use Rattle.state_api.specs.declared.call.StateAnswer.{StateAnswer}
use Rattle.state_api.specs.declared.running.Ran.{Ran}
use Rattle.state_api.specs.Call.{Makes}
use Rattle.state_api.specs.Ran.{ran_of}
use Rattle.sidecar_objects.specs.declared.doing.Doing.{Doing}
use Rattle.sidecar_objects.specs.Shown.{ShowsAt}
use Rattle.sidecar_objects.specs.Doing.{placed}

-- the attempts of a command at the store of this place, under what is bound to it
pub record StoreRan (place : ℕ) (bound : Bound) (cmd : Cmd) (events : List Doing) (result : Result Ran ApiErr) : Type 0 where
  pub attempts : List (Event Step)
  pub outcome : Outcome StateAnswer (Unit {0})
  pub made : Attempts bound (λ limit. Makes cmd) outcome attempts
  pub ran : result ≡ ran_of outcome
  pub whole : events ≡ map (placed place (unwrap_or bound.breaker 0)) attempts

-- the seat of the store at this place shows the count, or that of the breaker that is bound
abbrev pub IsShown : {O C R O' C' R' : Type 0} → ℕ → Bound → List (Sitting O C R) → List (Sitting O' C' R') → ℕ → Type 0
IsShown place bound stores breakers count = ShowsAt place count stores ⊎ ((k : ℕ) × (bound.breaker ≡ Some k) × ShowsAt k count breakers)
