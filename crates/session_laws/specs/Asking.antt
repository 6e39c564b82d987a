-- Why a call of the link under what is bound to its target came to what it came to, by what was done, and by what the link counts.
use Rattle.std.specs.Prelude.{◌≡◌, ◌<◌, ◌+◌, ◌⊎◌, ℕ, List, [], ◌∷◌, ◌++◌, flat_map, Some, Ok}
use Rattle.side_base.specs.declared.message.LinkRequest.{LinkRequest}
use Rattle.side_base.specs.declared.message.Response.{Response}
use Rattle.side_world.specs.declared.link.LinkCall.{LinkCall}
use Rattle.side_world.specs.Faults.{Rose}
use Rattle.retry_core.specs.declared.policy.Bound.{Bound}
use Rattle.breaker_core.specs.declared.command.BreakerCmd.TheVariants.{Admit}
use Rattle.breaker_core.specs.Course.{Step as BreakerStep}
use Rattle.policy_run.specs.declared.outcome.Refusal.{Refusal}
use Rattle.policy_run.specs.Attempts.{limit_of}
use Rattle.policy_run.specs.Turn.{reply_of}
use Rattle.sidecar_objects.specs.declared.doing.Doing.{Doing}
use Rattle.sidecar_objects.specs.declared.doing.Doing.TheVariants.{Asked, Timed}
use Rattle.sidecar_objects.specs.Doing.{asked_in, steps_at}
use Rattle.sidecar_objects.specs.Kind.{breakers}
use Rattle.session_laws.specs.Served.{IsFresh, Served}

-- this is the last call of the link
pub record IsLastCall (call : LinkCall) (events : List Doing) : Type 0 where
  pub earlier : List Doing
  pub later : List Doing
  pub whole : events ≡ earlier ++ Asked call ∷ later
  pub none_later : flat_map asked_in later ≡ []

-- the last call of the link was this request, and had this reply
pub record HasReply (request : LinkRequest) (events : List Doing) (response : Response) : Type 0 where
  pub call : LinkCall
  pub last : IsLastCall call events
  pub asked : call.request ≡ request
  pub answer : call.answer ≡ Ok response

-- a limit is bound, and of the moments that were read right before a call and right after it the second is more than the limit past the first
pub record IsOverdue (limit : ℕ) (events : List Doing) : Type 0 where
  pub limited : 0 < limit
  pub earlier : List Doing
  pub begun : ℕ
  pub call : LinkCall
  pub ended : ℕ
  pub later : List Doing
  pub whole : events ≡ earlier ++ Timed begun ∷ Asked call ∷ Timed ended ∷ later
  pub apart : begun + limit < ended

-- the breaker that is bound turned the last attempt away, and said so
pub record IsTurnedAway (bound : Bound) (refusal : Refusal) (events : List Doing) : Type 0 where
  pub place : ℕ
  pub is_bound : bound.breaker ≡ Some place
  pub earlier : List BreakerStep
  pub now : ℕ
  pub step : BreakerStep
  pub asked : step.cmd ≡ Admit now
  pub answer : step.reply ≡ reply_of refusal
  pub last : flat_map (steps_at breakers place) events ≡ earlier ++ step ∷ []

module _ {O : Type 0} (served : Served O) where
  -- the link counted a fault
  abbrev pub HasFault : Type 0
  HasFault = Rose served.before.link.faults served.after.link.faults

  -- it counted an expiry, or a call took longer than its limit
  abbrev pub HasExpiry : Bound → Type 0
  HasExpiry bound = Rose served.before.link.expiries served.after.link.expiries ⊎ IsOverdue (limit_of bound) served.events

  -- Nothing stands against a call under what is bound: the link counts neither a fault nor an expiry, no call takes longer than its limit, no breaker turns one away, and no
  -- cell is exhausted
  pub record IsUnhindered (bound : Bound) : Type 0 where
    pub no_fault : ¬ HasFault
    pub no_expiry : ¬ HasExpiry bound
    pub let_through : (refusal : Refusal) → ¬ IsTurnedAway bound refusal served.events
    pub fresh : IsFresh served
