-- Calls of a link as attempts: what one attempt does, and what is heard of it.
use Rattle.std.specs.Prelude.{◌≡◌, ◌<◌, ◌+◌, ℕ, Bool, true, false, nat_lt, if◌then◌else◌, List, [], ◌∷◌, Result, Ok, Err}
use Rattle.std.proofs.Common.{subst}
use Rattle.side_base.specs.declared.message.LinkRequest.{LinkRequest}
use Rattle.side_base.specs.declared.message.Response.{Response}
use Rattle.side_world.specs.declared.link.LinkCall.{LinkCall}
use Rattle.side_world.specs.declared.link.LinkErr.{LinkErr}
use Rattle.side_world.specs.declared.link.LinkErr.TheVariants as link
use Rattle.policy_run.specs.declared.operation.Attempt.{Attempt}
use Rattle.policy_run.specs.declared.operation.Attempt.TheVariants as attempt
use Rattle.policy_run.specs.Event.{Event, own, moment}
use Rattle.link_call.specs.declared.miss.Miss.{Miss}
use Rattle.link_call.specs.declared.miss.Miss.TheVariants as miss

-- what a reply in time means: below 500 it is good
abbrev pub by_status : Response → Attempt Response Miss
by_status response = if nat_lt response.status 500 then attempt.Good response else attempt.Bad (miss.Replied response)

-- What is heard of a call, which is late where the clock moved by more than the limit: a fault comes first, and then an expiry, whatever the reply
abbrev pub heard : Result Response LinkErr → Bool → Attempt Response Miss
heard (Err link.NoMemory) late = attempt.NoMemory
heard (Err link.Failed) late = attempt.Bad miss.Failed
heard (Err link.Expired) late = attempt.Bad miss.Expired
heard (Ok response) true = attempt.Bad miss.Expired
heard (Ok response) false = by_status response

-- the call of this request within a limit, with its answer
abbrev pub call_of : LinkRequest → ℕ → Result Response LinkErr → LinkCall
call_of request limit answer = record { request = request; limit_ms = limit; answer = answer }

-- One attempt makes one call of the link; where a limit is bound, a moment is read right before it and right after
pub data Tries (request : LinkRequest) (limit : ℕ) (came : Attempt Response Miss) (events : List (Event LinkCall)) : Type 0 where
  free : (answer : Result Response LinkErr) → limit ≡ 0 → came ≡ heard answer false → events ≡ own (call_of request limit answer) ∷ [] → Tries request limit came events
  timed : (before after : ℕ) (answer : Result Response LinkErr) → 0 < limit → came ≡ heard answer (nat_lt (before + limit) after)
      → events ≡ moment before ∷ own (call_of request limit answer) ∷ moment after ∷ [] → Tries request limit came events

-- the same request is asked by the same attempts
pub tries_alike : (request same : LinkRequest) (limit : ℕ) (came : Attempt Response Miss) (events : List (Event LinkCall)) → same ≡ request → Tries same limit came events → Tries request limit came events
tries_alike request same limit came events is tries = subst (λ r. Tries r limit came events) is tries
