-- A call of a method of an app: of the own one, or of another one at its sidecar.
use Rattle.std.specs.Prelude.{◌≡◌, ◌≢◌, ℕ, List, ◌++◌, codes, None, Result, Err}
use Rattle.side_base.specs.declared.message.LinkRequest.{LinkRequest}
use Rattle.side_base.specs.declared.message.Request.{Request}
use Rattle.side_base.specs.declared.message.Response.{Response}
use Rattle.turn_cell.specs.declared.error.ApiErr.{ApiErr}
use Rattle.turn_cell.specs.declared.error.ApiErr.TheVariants as error
use Rattle.api_error.specs.declared.code.Code.TheVariants as code
use Rattle.api_error.specs.Body.{error_response}
use Rattle.app_peers.specs.Peers.{peer_of}
use Rattle.policy_run.specs.declared.outcome.Outcome.{Outcome}
use Rattle.policy_run.specs.declared.outcome.Outcome.TheVariants.{Good, Bad, Refused, Exhausted, NoMemory}
use Rattle.policy_run.specs.RefusalText.{refusal_text}
use Rattle.link_call.specs.declared.miss.Miss.{Miss}
use Rattle.link_call.specs.declared.miss.Miss.TheVariants.{Failed, Expired, Replied}
use Rattle.link_call.specs.Passed.{passed_on}
use Rattle.link_call.specs.Came.{Came, Gives, IsOr, Lacks}
use Rattle.link_call.specs.LinkAt.{Links}
use Rattle.policy_run.specs.Effects.{Times}
use Rattle.policy_run.specs.Event.{Event}
use Rattle.retry_core.specs.declared.policy.Bound.{Bound}
use Rattle.side_world.specs.declared.link.LinkCall.{LinkCall}
use Rattle.invoke_api.specs.declared.placing.Place.{Place}
use Rattle.invoke_api.specs.declared.placing.Unplaced.{Unplaced}
use Rattle.invoke_api.specs.declared.placing.Unplaced.TheVariants as unplaced
use Rattle.invoke_api.specs.Places.{Apps, Call, IsPlace, request_at}

-- an error of this route
abbrev pub not_invoked : List ℕ → Response
not_invoked message = error_response 500 code.DirectInvoke message

-- the last attempt failed; a reply is passed on all the same
abbrev pub missed : Miss → Response
missed Failed = not_invoked (codes "call failed")
missed Expired = not_invoked (codes "call expired")
missed (Replied response) = passed_on response

-- the response to what the attempts came to; a call that ended early has none
abbrev pub InvokeReplies : Outcome Response Miss → Result Response ApiErr → Type 0
InvokeReplies (Good response) reply = IsOr (passed_on response) reply
InvokeReplies (Bad miss) reply = IsOr (missed miss) reply
InvokeReplies (Refused refusal) reply = IsOr (not_invoked (refusal_text refusal)) reply
InvokeReplies (Exhausted count) reply = reply ≡ Err (error.Exhausted count)
InvokeReplies NoMemory reply = reply ≡ Err error.NoMemory

-- the response where nothing is asked
abbrev pub UnplacedReplies : List ℕ → Unplaced → Result Response ApiErr → Type 0
UnplacedReplies id unplaced.NoPort reply = IsOr (not_invoked (codes "no app port")) reply
UnplacedReplies id unplaced.Unknown reply = IsOr (not_invoked (codes "unknown app " ++ id)) reply
UnplacedReplies id unplaced.NoMemory reply = reply ≡ Err error.NoMemory

-- the attempts of a request, and the response to what they came to; `ran` says what attempts with an outcome do
pub record Invoked {E : Type 0} (ran : LinkRequest → List E → Outcome Response Miss → Type 0) (asked : LinkRequest) (events : List E) (reply : Result Response ApiErr) : Type 0 where
  pub outcome : Outcome Response Miss
  pub came : ran asked events outcome
  pub replies : InvokeReplies outcome reply

-- A call of a method: nothing is done where the app isn't there. There may be no memory before anything is done
pub data Invokes {E : Type 0} (ran : LinkRequest → List E → Outcome Response Miss → Type 0) (apps : Apps) (request : Request) (id rest : List ℕ) (events : List E) (reply : Result Response ApiErr) : Type 0 where
  lacks : Lacks events reply → Invokes ran apps request id rest events reply
  no_port : id ≡ apps.own → apps.port ≡ None → Gives (not_invoked (codes "no app port")) events reply → Invokes ran apps request id rest events reply
  unknown : id ≢ apps.own → peer_of apps.peers id ≡ None → Gives (not_invoked (codes "unknown app " ++ id)) events reply → Invokes ran apps request id rest events reply
  called : (place : Place) → IsPlace apps id rest place → Invoked ran (request_at place request) events reply → Invokes ran apps request id rest events reply

-- the same by calls of a link, under what is bound to the app
abbrev pub InvokesBy : Bound → Call → Result Response ApiErr → Links → Times → List (Event LinkCall) → Type 0
InvokesBy bound call reply link clock events = Invokes (Came bound link.before link.after clock) call.apps call.request call.id call.rest events reply
