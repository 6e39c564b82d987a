-- A message that is published: it is stamped, made an event, and given to the ledger of its component.
use Rattle.std.specs.Prelude.{◌≡◌, ◌≢◌, ⊤, ℕ, Bool, true, false, List, [], ◌∷◌, ◌++◌, codes, decimal, if◌then◌else◌, Option, Some, None, Result, Ok, Err}
use Rattle.std.specs.Int.{to_le_bytes, w64}
use Rattle.std.specs.Str.{is_utf8}
use Rattle.uuid.specs.declared.Version.TheVariants.{Random}
use Rattle.uuid.specs.declared.Variant.TheVariants.{RFC4122}
use Rattle.uuid.specs.Parts.{with_variant, with_version}
use Rattle.uuid.specs.Text.{hyphenated_text, lower}
use Rattle.side_base.specs.declared.message.Request.{Request}
use Rattle.side_base.specs.declared.message.Response.{Response}
use Rattle.side_base.specs.Field.{first_value}
use Rattle.turn_cell.specs.declared.error.ApiErr.{ApiErr}
use Rattle.turn_cell.specs.declared.error.ApiErr.TheVariants as error
use Rattle.json_text.specs.Forest.{Forest}
use Rattle.api_error.specs.declared.code.Code.TheVariants as code
use Rattle.api_error.specs.Body.{error_response}
use Rattle.ledger_core.specs.declared.command.LedgerCmd.{LedgerCmd}
use Rattle.ledger_core.specs.declared.command.LedgerCmd.TheVariants.{Accept}
use Rattle.ledger_core.specs.declared.reply.LedgerReply.{LedgerReply}
use Rattle.ledger_core.specs.declared.reply.LedgerReply.TheVariants as says
use Rattle.ledger_core.specs.Message.{Step}
use Rattle.cloud_events.specs.declared.sent.Sent.{Sent}
use Rattle.cloud_events.specs.declared.sent.EventErr.{EventErr}
use Rattle.cloud_events.specs.declared.sent.EventErr.TheVariants.{NotJson, Attribute, BothData, BadBase64, BadTime, NoMemory}
use Rattle.cloud_events.specs.Wrapped.{IsRead, IsRefused, IsWrapped}
use Rattle.topic_spec.specs.declared.sub.Sub.{Sub}
use Rattle.topic_spec.specs.Aiming.{aims_of}
use Rattle.topic_spec.specs.Scopes.{may_publish}
use Rattle.policy_run.specs.Event.{Event, own, word, moment}
use Rattle.link_call.specs.Came.{Gives, IsOr}
use Rattle.pubsub_api.specs.declared.publication.Publication.{Publication}
use Rattle.pubsub_api.specs.declared.publication.PubErr.{PubErr}
use Rattle.pubsub_api.specs.declared.publication.PubErr.TheVariants as refusal
use Rattle.pubsub_api.specs.declared.stamp.Stamp.{Stamp}

-- ---- what becomes an event

-- a field's value that is no UTF-8 counts as absent
abbrev pub as_text : Option (List ℕ) → Option (List ℕ)
as_text None = None
as_text (Some value) = if is_utf8 value then Some value else None

-- the text of the first field of this name
abbrev pub text_field : List ℕ → Request → Option (List ℕ)
text_field name request = as_text (first_value name request.fields)

abbrev pub sent_by : List ℕ → Request → List ℕ → List ℕ → Sent
sent_by app request pubsub topic = record {
  content_type = text_field (codes "Content-Type") request;
  body = request.body;
  traceparent = text_field (codes "traceparent") request;
  tracestate = text_field (codes "tracestate") request;
  pubsub = pubsub;
  topic = topic;
  app = app;
}

abbrev pub sent_of : Publication → Sent
sent_of p = sent_by p.app.now p.request.now p.component.now.name p.topic.now

-- the scopes of the component let the app publish to the topic
abbrev pub is_allowed : Publication → Bool
is_allowed p = may_publish p.component.now p.app.now p.topic.now

-- ---- the stamp

-- the bytes of a UUID of version 4 (RFC 9562, section 5.4): those of both words, each with its least byte first
abbrev pub uuid_of : Stamp → List ℕ
uuid_of stamp = with_version (with_variant (to_le_bytes w64 stamp.first ++ to_le_bytes w64 stamp.second) RFC4122) Random

-- the id of a message
abbrev pub id_of : Stamp → List ℕ
id_of stamp = hyphenated_text lower (uuid_of stamp)

-- two random words are drawn, and then a moment is read
abbrev pub stamps : Stamp → List (Event Step)
stamps stamp = word stamp.first ∷ word stamp.second ∷ moment stamp.at ∷ []

-- ---- the message

-- the event of a message, and its values
pub record IsMessage (sent : Sent) (stamp : Stamp) (event : List ℕ) (values : Forest) : Type 0 where
  pub wrapped : IsWrapped sent (id_of stamp) stamp.at event
  pub read : IsRead event values

-- the command that gives an event to the ledger, for the subscriptions that it matches, at a moment
abbrev pub accept : List Sub → Sent → List ℕ → Forest → ℕ → LedgerCmd
accept subs sent event values now = Accept event (aims_of (record { bytes = event; values = values }) sent.pubsub sent.topic subs) now

-- what a stamped message comes to: the command, or why its body becomes no event
abbrev pub Commands : List Sub → Sent → Stamp → Result LedgerCmd PubErr → Type 0
Commands subs sent stamp (Ok cmd) = (event : List ℕ) × (values : Forest) × IsMessage sent stamp event values × (cmd ≡ accept subs sent event values stamp.at)
Commands subs sent stamp (Err refusal.Forbidden) = ⊥
Commands subs sent stamp (Err (refusal.Event why)) = IsRefused sent why × (why ≢ NoMemory)
Commands subs sent stamp (Err refusal.NoMemory) = Unit {0}

-- why a body becomes no command
abbrev pub unmade : EventErr → PubErr
unmade (NotJson at) = refusal.Event (NotJson at)
unmade (Attribute name) = refusal.Event (Attribute name)
unmade BothData = refusal.Event BothData
unmade (BadBase64 at) = refusal.Event (BadBase64 at)
unmade BadTime = refusal.Event BadTime
unmade NoMemory = refusal.NoMemory

-- What is published is stamped where the scopes allow it, and then its body is judged; where they do not, nothing is done
pub data Prepares (p : Publication) (events : List (Event Step)) (came : Result LedgerCmd PubErr) : Type 0 where
  denied : is_allowed p ≡ false → events ≡ [] → came ≡ Err refusal.Forbidden → Prepares p events came
  stamped : (stamp : Stamp) → is_allowed p ≡ true → events ≡ stamps stamp → Commands p.subs.now (sent_of p) stamp came → Prepares p events came

-- ---- what is answered

abbrev pub unknown_pubsub : List ℕ → Response
unknown_pubsub name = error_response 404 code.PubsubNotFound (codes "pubsub " ++ name ++ codes " is not found")

abbrev pub forbidden : List ℕ → Response
forbidden topic = error_response 403 code.PubsubForbidden (codes "topic " ++ topic ++ codes " is not allowed")

-- the name of what is wrong with a body
abbrev pub fault_text : EventErr → List ℕ
fault_text (NotJson at) = codes "NotJson"
fault_text (Attribute name) = codes "Attribute"
fault_text BothData = codes "BothData"
fault_text (BadBase64 at) = codes "BadBase64"
fault_text BadTime = codes "BadTime"
fault_text NoMemory = codes "NoMemory"

abbrev pub no_event : EventErr → Response
no_event why = error_response 400 code.PubsubCloudEventsSer (fault_text why)

abbrev pub full : ℕ → ℕ → Response
full rows bytes = error_response 500 code.PubsubPublishMessage (codes "full at " ++ decimal rows ++ codes " rows and " ++ decimal bytes ++ codes " bytes")

-- the message is taken
abbrev pub taken : Response
taken = record { status = 204; fields = []; body = [] }

-- the response to what the ledger replied
abbrev pub AcceptReplies : LedgerReply → Result Response ApiErr → Type 0
AcceptReplies (says.Accepted number) reply = reply ≡ Ok taken
AcceptReplies (says.Full rows bytes) reply = IsOr (full rows bytes) reply
AcceptReplies says.NoMemory reply = reply ≡ Err error.NoMemory
AcceptReplies other reply = ⊥

-- a reply that a ledger may have to an event
abbrev pub IsAcceptReply : LedgerReply → Type 0
IsAcceptReply (says.Accepted number) = ⊤
IsAcceptReply (says.Full rows bytes) = ⊤
IsAcceptReply says.NoMemory = ⊤
IsAcceptReply other = ⊥

-- what is answered where there is no command
abbrev pub RefusalReplies : List ℕ → PubErr → Result Response ApiErr → Type 0
RefusalReplies topic refusal.Forbidden reply = IsOr (forbidden topic) reply
RefusalReplies topic (refusal.Event why) reply = IsOr (no_event why) reply
RefusalReplies topic refusal.NoMemory reply = reply ≡ Err error.NoMemory

-- ---- all

-- the ledger is given this event, for the subscriptions that it matches, at the moment of the stamp
pub record IsAccept (subs : List Sub) (sent : Sent) (stamp : Stamp) (step : Step) : Type 0 where
  pub event : List ℕ
  pub values : Forest
  pub message : IsMessage sent stamp event values
  pub told : step.cmd ≡ accept subs sent event values stamp.at

-- What is published is stamped first, and then it is made an event, which is given to the ledger; where the scopes deny it, nothing is done
pub data Publishes (p : Publication) (events : List (Event Step)) (reply : Result Response ApiErr) : Type 0 where
  denied : is_allowed p ≡ false → Gives (forbidden p.topic.now) events reply → Publishes p events reply
  lacks : (stamp : Stamp) → is_allowed p ≡ true → events ≡ stamps stamp → reply ≡ Err error.NoMemory → Publishes p events reply
  refused : (stamp : Stamp) (why : EventErr) → is_allowed p ≡ true → why ≢ NoMemory → IsRefused (sent_of p) why → events ≡ stamps stamp → IsOr (no_event why) reply → Publishes p events reply
  exhausted : (stamp : Stamp) (event : List ℕ) (values : Forest) (count : ℕ) → is_allowed p ≡ true → IsMessage (sent_of p) stamp event values → events ≡ stamps stamp → reply ≡ Err (error.Exhausted count) → Publishes p events reply
  accepted : (stamp : Stamp) (step : Step) → is_allowed p ≡ true → IsAccept p.subs.now (sent_of p) stamp step → events ≡ stamps stamp ++ own step ∷ [] → AcceptReplies step.reply reply → Publishes p events reply
