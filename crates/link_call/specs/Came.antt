-- What a call of a link came to, by attempts under what is bound to its target, and what is answered by it.
use Rattle.std.specs.Prelude.{◌≡◌, ◌⊎◌, ℕ, List, [], Result, Ok, Err}
use Rattle.side_base.specs.declared.message.LinkRequest.{LinkRequest}
use Rattle.side_base.specs.declared.message.Response.{Response}
use Rattle.side_world.specs.declared.link.LinkCall.{LinkCall}
use Rattle.turn_cell.specs.declared.error.ApiErr.{ApiErr}
use Rattle.turn_cell.specs.declared.error.ApiErr.TheVariants as error
use Rattle.retry_core.specs.declared.policy.Bound.{Bound}
use Rattle.policy_run.specs.declared.outcome.Outcome.{Outcome}
use Rattle.breaker_core.specs.Course.{Step}
use Rattle.policy_run.specs.Event.{Event}
use Rattle.policy_run.specs.Attempts.{Attempts}
use Rattle.policy_run.specs.Effects.{Made, Runs, Times}
use Rattle.link_call.specs.declared.miss.Miss.{Miss}
use Rattle.link_call.specs.Linked.{Tries}
use Rattle.link_call.specs.LinkAt.{Asks, LinkAt, Links}
use Rattle.link_call.specs.Cause.{HasCause}

-- these attempts were made of a request, and came to this, whose cause the link counted, or is in the reply or the clock
pub record Came (bound : Bound) (link link' : LinkAt) (clock : Times) (asked : LinkRequest) (events : List (Event LinkCall)) (outcome : Outcome Response Miss) : Type 0 where
  pub attempts : Attempts bound (Tries asked) outcome events
  pub cause : HasCause bound outcome link link' clock.before clock.after

-- the same of what a link and a clock show before and after
abbrev pub CameTo : Bound → LinkRequest → Outcome Response Miss → Links → Times → List (Event LinkCall) → Type 0
CameTo bound asked outcome link clock events = Came bound link.before link.after clock asked events outcome

-- There are events of which this holds, for what the link and the clock show; its calls of the link are what the link tells and counts, and what it did to a
-- guard, to the clock and to the random words is as the events have it
abbrev pub Calls : (Links → Times → List (Event LinkCall) → Type 0) → Links → (List Step → Type 0) → Times → (List ℕ → Type 0) → Type 0
Calls is link held clock drawn = Made (is link clock) (Runs Asks link.before link.after) held clock drawn

-- ---- what is answered

-- this response, or there is no memory for it
abbrev pub IsOr : Response → Result Response ApiErr → Type 0
IsOr response reply = (reply ≡ Ok response) ⊎ (reply ≡ Err error.NoMemory)

-- nothing is done, and there is no memory
abbrev pub Lacks : {E : Type 0} → List E → Result Response ApiErr → Type 0
Lacks events reply = (events ≡ []) × (reply ≡ Err error.NoMemory)

-- nothing is done, and this is answered
abbrev pub Gives : {E : Type 0} → Response → List E → Result Response ApiErr → Type 0
Gives response events reply = (events ≡ []) × IsOr response reply
