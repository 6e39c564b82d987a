-- A call of an actor: it joins the line of its actor, looks until it is its turn, asks the app once, and leaves, whatever the app answers.
use Rattle.std.specs.Prelude.{◌≡◌, ◌<◌, ◌⊎◌, ℕ, suc, List, [], ◌∷◌, ◌++◌, codes, decimal, drop, Option, Some, None, Result, Ok, Err}
use Rattle.side_base.specs.declared.method.Method.TheVariants.{Put}
use Rattle.side_base.specs.declared.message.LinkRequest.{LinkRequest}
use Rattle.side_base.specs.declared.message.Request.{Request}
use Rattle.side_base.specs.declared.message.Response.{Response}
use Rattle.side_world.specs.declared.link.LinkErr.{LinkErr}
use Rattle.side_world.specs.declared.link.LinkErr.TheVariants as miss
use Rattle.turn_cell.specs.declared.error.ApiErr.{ApiErr}
use Rattle.turn_cell.specs.declared.error.ApiErr.TheVariants as error
use Rattle.api_error.specs.declared.code.Code.TheVariants as code
use Rattle.api_error.specs.Body.{error_response}
use Rattle.actor_turns.specs.declared.command.TurnsCmd.TheVariants.{Join, Look, Leave}
use Rattle.actor_turns.specs.declared.command.TurnsReply.{TurnsReply}
use Rattle.actor_turns.specs.declared.command.TurnsReply.TheVariants as says
use Rattle.actor_turns.specs.Course.{Step}
use Rattle.policy_run.specs.Event.{Event, own, pause}
use Rattle.link_call.specs.Passed.{passed, passed_on}
use Rattle.link_call.specs.Came.{Gives, IsOr, Lacks}
use Rattle.actor_api.specs.declared.awaiting.Awaited.{Awaited}
use Rattle.actor_api.specs.declared.awaiting.Awaited.TheVariants as awaited
use Rattle.actor_api.specs.declared.awaiting.Looked.{Looked}
use Rattle.actor_api.specs.declared.awaiting.Looked.TheVariants as looked
use Rattle.actor_api.specs.Stepping.{Answered, Own, asked, entered}

-- what is asked of the app, at this port: the method of the actor, with the fields that are passed on and the body
abbrev pub request_to : ℕ → Request → LinkRequest
request_to port request = record {
  host = codes "127.0.0.1";
  port = port;
  method = Put;
  target = codes "/actors/" ++ drop 13 request.target;
  fields = passed request.fields;
  body = request.body;
}

-- ---- what is answered

abbrev pub not_invoked : List ℕ → Response
not_invoked message = error_response 500 code.ActorInvokeMethod message

-- to what the link answered; the reply is passed on whatever its status is
abbrev pub Replies : Result Response LinkErr → Result Response ApiErr → Type 0
Replies (Ok response) reply = IsOr (passed_on response) reply
Replies (Err miss.Failed) reply = IsOr (not_invoked (codes "call failed")) reply
Replies (Err miss.Expired) reply = IsOr (not_invoked (codes "call expired")) reply
Replies (Err miss.NoMemory) reply = reply ≡ Err error.NoMemory

-- ---- the turn

-- so many looks said that others are before the ticket, and after each there was a pause of 10 ms; the last one said how many, if there was one
pub data Waited (ticket : ℕ) : ℕ → ℕ → List (Event Own) → Type 0 where
  none_yet : Waited ticket 0 0 []
  one_more : (looks last ahead : ℕ) (before : List (Event Own)) (step : Step) → Waited ticket looks last before → Answered (Look ticket) (says.Behind ahead) step
      → Waited ticket (suc looks) ahead (before ++ own (entered step) ∷ pause 10 ∷ [])

-- one look, which says that others are before the ticket, or how the waiting ends
abbrev pub Looks : ℕ → Looked → List (Event Own) → Type 0
Looks ticket (looked.Behind ahead) events = (step : Step) × Answered (Look ticket) (says.Behind ahead) step × (events ≡ own (entered step) ∷ pause 10 ∷ [])
Looks ticket (looked.Over awaited.Yours) events = (step : Step) × Answered (Look ticket) says.Yours step × (events ≡ own (entered step) ∷ [])
Looks ticket (looked.Over awaited.Lost) events = (step : Step) × Answered (Look ticket) says.NotOpen step × (events ≡ own (entered step) ∷ [])
Looks ticket (looked.Over (awaited.Exhausted count)) events = events ≡ []
Looks ticket (looked.Over (awaited.Behind ahead)) events = ⊥

-- At most 6,000 looks: the last one ends the waiting, or all of them said that others are before the ticket
pub data Awaits (ticket : ℕ) (how : Awaited) (events : List (Event Own)) : Type 0 where
  over : (looks last : ℕ) (before end : List (Event Own)) → looks < 6000 → Waited ticket looks last before → Looks ticket (looked.Over how) end → events ≡ before ++ end → Awaits ticket how events
  tired : (ahead : ℕ) → Waited ticket 6000 ahead events → how ≡ awaited.Behind ahead → Awaits ticket how events

-- the ticket is left, or the cell is exhausted
abbrev pub Leaves : ℕ → List (Event Own) → Type 0
Leaves ticket events = (step : Step) × (reply : TurnsReply) × Answered (Leave ticket) reply step × (events ≡ own (entered step) ∷ [])

-- behind the waiting: at its turn the app is asked once, without a limit, and the ticket is left, whatever the link answers; after too many looks it is left without a call; a ticket
-- that another seat left is lost. On an exhausted cell the ticket stays open
pub data Finishes (request : LinkRequest) (ticket : ℕ) : Awaited → List (Event Own) → Result Response ApiErr → Type 0 where
  called : (answer : Result Response LinkErr) (leave : List (Event Own)) (reply : Result Response ApiErr) → Leaves ticket leave → Replies answer reply
      → Finishes request ticket awaited.Yours (own (asked (record { request = request; limit_ms = 0; answer = answer })) ∷ leave) reply
  called_unleft : (answer : Result Response LinkErr) (count : ℕ) → Finishes request ticket awaited.Yours (own (asked (record { request = request; limit_ms = 0; answer = answer })) ∷ []) (Err (error.Exhausted count))
  tired : (ahead : ℕ) (leave : List (Event Own)) (reply : Result Response ApiErr) → Leaves ticket leave → IsOr (not_invoked (codes "waits behind " ++ decimal ahead)) reply → Finishes request ticket (awaited.Behind ahead) leave reply
  tired_unleft : (ahead count : ℕ) → Finishes request ticket (awaited.Behind ahead) [] (Err (error.Exhausted count))
  lost : (reply : Result Response ApiErr) → IsOr (not_invoked (codes "turn lost")) reply → Finishes request ticket awaited.Lost [] reply
  unseen : (count : ℕ) → Finishes request ticket (awaited.Exhausted count) [] (Err (error.Exhausted count))

-- ---- all of it

-- with a ticket: the waiting, and what follows it
pub record TakesTurn (request : LinkRequest) (ticket : ℕ) (events : List (Event Own)) (reply : Result Response ApiErr) : Type 0 where
  pub how : Awaited
  pub waiting : List (Event Own)
  pub rest : List (Event Own)
  pub awaits : Awaits ticket how waiting
  pub finishes : Finishes request ticket how rest reply
  pub whole : events ≡ waiting ++ rest

-- the line is joined
pub data Joins (request : LinkRequest) (actor : List ℕ) (events : List (Event Own)) (reply : Result Response ApiErr) : Type 0 where
  joined : (ticket : ℕ) (step : Step) (rest : List (Event Own)) → Answered (Join actor) (says.Joined ticket) step → TakesTurn request ticket rest reply → events ≡ own (entered step) ∷ rest → Joins request actor events reply
  full : (waiting : ℕ) (step : Step) → Answered (Join actor) (says.Full waiting) step → events ≡ own (entered step) ∷ [] → IsOr (not_invoked (codes "full at " ++ decimal waiting)) reply → Joins request actor events reply
  lacks : (step : Step) → Answered (Join actor) says.NoMemory step → events ≡ own (entered step) ∷ [] → reply ≡ Err error.NoMemory → Joins request actor events reply
  exhausted : (count : ℕ) → events ≡ [] → reply ≡ Err (error.Exhausted count) → Joins request actor events reply

-- Without an app port nothing is done. Else the request is made, and then the line is joined; there may be no memory before
abbrev pub Invokes : Option ℕ → Request → List ℕ → List (Event Own) → Result Response ApiErr → Type 0
Invokes None request actor events reply = Gives (not_invoked (codes "no app port")) events reply
Invokes (Some port) request actor events reply = Lacks events reply ⊎ Joins (request_to port request) actor events reply
