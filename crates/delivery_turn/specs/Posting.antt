-- The one call of the app in a turn of delivery, and what is made of its answer.
use Rattle.std.specs.Prelude.{◌≡◌, ◌≢◌, ◌<◌, ℕ, ◌+◌, ◌&&◌, Bool, true, false, not, nat_le, nat_lt, List, [], ◌∷◌, codes, Some, None, Result, Ok, Err}
use lib.ListN.{get_elem?}
use mathlib.Core.Option.{some}
use Rattle.side_base.specs.declared.method.Method.TheVariants.{Post}
use Rattle.side_base.specs.declared.message.LinkRequest.{LinkRequest}
use Rattle.side_base.specs.declared.message.Response.{Response}
use Rattle.side_world.specs.declared.link.LinkCall.{LinkCall}
use Rattle.side_world.specs.declared.link.LinkErr.{LinkErr}
use Rattle.side_world.specs.declared.link.LinkErr.TheVariants as miss
use Rattle.json_text.specs.declared.spot.Spot.{Spot}
use Rattle.json_text.specs.Forest.{Forest, empty, grows}
use Rattle.ledger_core.specs.declared.plan.Aim.{Aim}
use Rattle.ledger_core.specs.declared.command.Finish.{Finish}
use Rattle.ledger_core.specs.declared.command.Finish.TheVariants as finish
use Rattle.cloud_events.specs.declared.outcome.Verdict.{Verdict}
use Rattle.cloud_events.specs.declared.outcome.Verdict.TheVariants as verdict
use Rattle.cloud_events.specs.Verdict.{by_reply, by_status, is_good as is_success}
use Rattle.cloud_events.specs.Wrapped.{IsRead}
use Rattle.topic_spec.specs.declared.sub.Sub.{Sub}
use Rattle.topic_spec.specs.Aiming.{aims_of}
use Rattle.policy_run.specs.Event.{Event, own, moment, word}
use Rattle.delivery_turn.specs.Settling.{Own, asked, Row}

-- ---- what is asked

-- the event is posted to the app, which listens on 127.0.0.1, as CloudEvents 1.0 in its JSON format
abbrev pub request_of : ℕ → Row → LinkRequest
request_of port row = record {
  host = codes "127.0.0.1";
  port = port;
  method = Post;
  target = row.path;
  fields = record { name = codes "Content-Type"; value = codes "application/cloudevents+json" } ∷ [];
  body = row.event;
}

-- the call, within the limit (0: none), with its answer
abbrev pub call_of : ℕ → ℕ → Row → Result Response LinkErr → LinkCall
call_of port limit row answer = record { request = request_of port row; limit_ms = limit; answer = answer }

-- The app was asked once. Where a limit is bound, a moment is read right before and right after, and the answer is late where the clock moved by more
pub data Posts (port limit : ℕ) (row : Row) (answer : Result Response LinkErr) (late : Bool) (events : List (Event Own)) : Type 0 where
  free : limit ≡ 0 → late ≡ false → events ≡ own (asked (call_of port limit row answer)) ∷ [] → Posts port limit row answer late events
  timed : (before after : ℕ) → 0 < limit → late ≡ nat_lt (before + limit) after → events ≡ moment before ∷ own (asked (call_of port limit row answer)) ∷ moment after ∷ []
      → Posts port limit row answer late events

-- ---- what is heard

-- a reply, or none that counts: a fault, or an expiry; or there was no memory
pub data Heard : Type 0 where
  replied : Response → Heard
  missed : Heard
  lacked : Heard

abbrev pub heard : Result Response LinkErr → Bool → Heard
heard (Err miss.NoMemory) late = lacked
heard (Err miss.Failed) late = missed
heard (Err miss.Expired) late = missed
heard (Ok response) true = missed
heard (Ok response) false = replied response

-- what the breaker is told: 500 to 599, a fault and an expiry are failing
abbrev pub is_good : Heard → Bool
is_good (replied response) = not (nat_le 500 response.status && nat_le response.status 599)
is_good missed = false
is_good lacked = true

-- ---- how it is settled

abbrev pub finish_of : Verdict → Finish
finish_of verdict.Success = finish.Success
finish_of verdict.Retry = finish.Retry
finish_of verdict.Drop = finish.Drop

-- The verdict on a reply. Outside 200 to 299 its status alone says it, and where there is no body; else its body may be a JSON text of one value, which holds others
pub data IsJudged (response : Response) (verdict : Verdict) : Type 0 where
  by_number : is_success response.status ≡ false → verdict ≡ by_status response.status → IsJudged response verdict
  empty_handed : response.body ≡ [] → verdict ≡ by_status response.status → IsJudged response verdict
  read : is_success response.status ≡ true → response.body ≢ [] → (spot : Spot) (inside : Forest) → IsRead response.body (grows spot inside empty) → verdict ≡ by_reply response.status response.body inside → IsJudged response verdict
  unread : is_success response.status ≡ true → response.body ≢ [] → ((values : Forest) → ¬ IsRead response.body values) → verdict ≡ by_status response.status → IsJudged response verdict

-- how what was heard is settled; where there was no memory it isn't
abbrev pub IsFinish : Heard → Finish → Type 0
IsFinish (replied response) ends = (v : Verdict) × IsJudged response v × (ends ≡ finish_of v)
IsFinish missed ends = ends ≡ finish.Retry
IsFinish lacked ends = ⊥

-- the subscription of the row
abbrev pub IsSubOf : List Sub → Row → Sub → Type 0
IsSubOf subs row sub = get_elem? subs row.sub ≡ some sub

-- the aims of the row's event at a topic of its subscription's component
abbrev pub aims_at : List Sub → Row → Sub → List ℕ → Forest → List Aim
aims_at subs row sub topic values = aims_of (record { bytes = row.event; values = values }) sub.pubsub topic subs

-- the subscriptions to a topic that an event matches, where it is a JSON text
pub data AimsAt (subs : List Sub) (event pubsub topic : List ℕ) (aims : List Aim) : Type 0 where
  no_text : ((values : Forest) → ¬ IsRead event values) → aims ≡ [] → AimsAt subs event pubsub topic aims
  matches : (values : Forest) → IsRead event values → aims ≡ aims_of (record { bytes = event; values = values }) pubsub topic subs → AimsAt subs event pubsub topic aims

-- Where the event goes if it is given up: to the subscriptions of the dead-letter topic that it matches, where there is such a topic and the event is a JSON text
pub data DeadAims (subs : List Sub) (row : Row) (aims : List Aim) : Type 0 where
  nowhere : (sub : Sub) → IsSubOf subs row sub → sub.dead ≡ None → aims ≡ [] → DeadAims subs row aims
  unreadable : (sub : Sub) (topic : List ℕ) → IsSubOf subs row sub → sub.dead ≡ Some topic → ((values : Forest) → ¬ IsRead row.event values) → aims ≡ [] → DeadAims subs row aims
  matched : (sub : Sub) (topic : List ℕ) (values : Forest) → IsSubOf subs row sub → sub.dead ≡ Some topic → IsRead row.event values → aims ≡ aims_at subs row sub topic values
      → DeadAims subs row aims

-- the subscription of the row has a dead-letter topic
pub record HasLetter (subs : List Sub) (row : Row) : Type 0 where
  pub sub : Sub
  pub topic : List ℕ
  pub is_sub : IsSubOf subs row sub
  pub dead : sub.dead ≡ Some topic

-- Where memory is wanted once the app was asked: by the link, for the JSON text of a body that counts, and for the aims of a dead letter. Nothing else that is heard asks for any
pub data MayLack (subs : List Sub) (row : Row) (what : Heard) : Type 0 where
  for_call : what ≡ lacked → MayLack subs row what
  for_body : (response : Response) → what ≡ replied response → is_success response.status ≡ true → response.body ≢ [] → MayLack subs row what
  for_letter : IsFinish what finish.Retry → HasLetter subs row → MayLack subs row what

-- What a settling draws and names: a random word, and the aims of the dead letter, exactly where it is `Retry`
pub data Draws (subs : List Sub) (row : Row) (ends : Finish) (drawn : ℕ) (aims : List Aim) (events : List (Event Own)) : Type 0 where
  again : ends ≡ finish.Retry → DeadAims subs row aims → events ≡ word drawn ∷ [] → Draws subs row ends drawn aims events
  otherwise : ends ≢ finish.Retry → drawn ≡ 0 → aims ≡ [] → events ≡ [] → Draws subs row ends drawn aims events
