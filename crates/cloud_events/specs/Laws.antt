-- What holds of events.
use Rattle.std.specs.Prelude.{◌≡◌, ◌≢◌, ℕ, ◌+◌, ◌≤◌, true, List, length, map, codes, Option, Some, None, is_some, IfSome, if◌then◌else◌}
use Rattle.std.specs.Str.{IsUtf8, bytes_eq}
use Rattle.base64.specs.GeneralPurpose.{IsBytes}
use Rattle.json_text.specs.Grammar.{IsText}
use Rattle.json_text.specs.Faults.{IsClean}
use Rattle.json_text.specs.MapTexts.{Written, ShowsMembers, map_of}
use Rattle.cloud_events.specs.declared.sent.Sent.{Sent}
use Rattle.cloud_events.specs.declared.media.Form.TheVariants.{Event}
use Rattle.cloud_events.specs.Event.{Attribute, set_members, trace_members, value_in}
use Rattle.cloud_events.specs.Media.{form_of}
use Rattle.cloud_events.specs.Members.{or_else}
use Rattle.cloud_events.specs.Wrapped.{IsWrapped}

-- what is sent beside the body is UTF-8, as texts are
pub record AreTexts (sent : Sent) (id : List ℕ) : Type 0 where
  pub id_is : IsUtf8 id
  pub app : IsUtf8 sent.app
  pub pubsub : IsUtf8 sent.pubsub
  pub topic : IsUtf8 sent.topic
  pub content_type : IfSome sent.content_type IsUtf8
  pub traceparent : IfSome sent.traceparent IsUtf8
  pub tracestate : IfSome sent.tracestate IsUtf8

abbrev pub attribute_in : Written → Attribute
attribute_in member = record { name = member.name; value = member.bytes }

-- the event is a JSON text of one map, whose members are these, and nothing is wrong with it, so that a reader takes it
pub record IsReadAs (members : List Attribute) (event : List ℕ) : Type 0 where
  pub written : List Written
  pub same : map attribute_in written ≡ members
  pub text : IsText event (map_of written)
  pub clean : IsClean event (length event + 1)
  pub shown : ShowsMembers event 1 written

-- ---- an event that is sent again

-- the id, the app and the content type are not empty, and the body is of bytes
pub record IsComplete (sent : Sent) (id : List ℕ) : Type 0 where
  pub texts : AreTexts sent id
  pub id_some : 1 ≤ length id
  pub app_some : 1 ≤ length sent.app
  pub type_some : IfSome sent.content_type (λ value. 1 ≤ length value)
  pub bytes : IsBytes sent.body

-- the event that a body became is sent, as an event
pub record IsSentAgain (sent again : Sent) (id : List ℕ) (now : ℕ) (event : List ℕ) : Type 0 where
  pub wrapped : IsWrapped sent id now event
  pub complete : IsComplete sent id
  pub body : again.body ≡ event
  pub form : form_of again.content_type ≡ Event

-- null counts as absent
abbrev pub without_null : Option (List ℕ) → Option (List ℕ)
without_null None = None
without_null (Some value) = if bytes_eq value (codes "null") then None else Some value

-- What becomes of the members: the topic and the pub/sub component are set, each other member is kept to the byte, but for
-- null, and trace fields are filled in where they are absent. There is no further one.
abbrev pub KeepsMembers : Sent → List Attribute → List Attribute → Type 0
KeepsMembers again members others =
    (name : List ℕ) → value_in name others ≡ or_else (value_in name (set_members again)) (or_else (without_null (value_in name members)) (value_in name (trace_members again)))

-- a trace field comes only where it came before
abbrev pub ComesOnlyIf : Option (List ℕ) → Option (List ℕ) → Type 0
ComesOnlyIf again before = IfSome again (λ value. is_some before ≡ true)

-- it is sent to the same topic, with no trace field that was not there
pub record IsSentAlike (again sent : Sent) : Type 0 where
  pub pubsub : again.pubsub ≡ sent.pubsub
  pub topic : again.topic ≡ sent.topic
  pub traceparent : ComesOnlyIf again.traceparent sent.traceparent
  pub tracestate : ComesOnlyIf again.tracestate sent.tracestate

-- no member is null
abbrev pub AreNotNull : List Attribute → Type 0
AreNotNull members = (name : List ℕ) → value_in name members ≢ Some (codes "null")

-- an event that is sent again, and becomes the other one, keeps its members in it
abbrev pub KeepsMembersAgain : Sent → Sent → List ℕ → List ℕ → List ℕ → List ℕ → ℕ → ℕ → Type 0
KeepsMembersAgain sent again id next event other now later =
    (one : IsSentAgain sent again id now event) (two : IsWrapped again next later other) → KeepsMembers again one.wrapped.event_is.members two.event_is.members

-- where it is sent alike, and no member is null, it becomes the same bytes
abbrev pub StaysAgain : Sent → Sent → List ℕ → List ℕ → List ℕ → List ℕ → ℕ → ℕ → Type 0
StaysAgain sent again id next event other now later =
    (one : IsSentAgain sent again id now event) → IsWrapped again next later other → IsSentAlike again sent → AreNotNull one.wrapped.event_is.members → other ≡ event
