-- The members of an event, and its bytes (CloudEvents 1.0, its JSON format).
use Rattle.std.specs.Prelude.{◌≡◌, ℕ, Bool, true, false, List, [], ◌∷◌, ◌++◌, map, fold, codes, Option, Some, None, if◌then◌else◌}
use Rattle.std.specs.Str.{bytes_eq, is_utf8}
use Rattle.std.specs.Ordering.{nat_cmp}
use Rattle.std.specs.declared.cmp.Ordering.TheVariants.{Less}
use Rattle.std.specs.Cmp.Lexicographic.{slice_cmp}
use Rattle.json_text.specs.Spelling.{string_of}
pub use Rattle.json_text.specs.Joined.{joined, comma, member_text, in_braces}
use Rattle.cloud_events.specs.declared.sent.Sent.{Sent}
use Rattle.cloud_events.specs.declared.item.Item.{Item}
use Rattle.cloud_events.specs.declared.item.Value.{Value}
use Rattle.cloud_events.specs.declared.item.Value.TheVariants.{Text, Simple, Other, Body, Encoded}
use Rattle.cloud_events.specs.Base.{encoded}
use Rattle.cloud_events.specs.Items.{part}
use Rattle.cloud_events.specs.Members.{or_else}
use Rattle.cloud_events.specs.Placing.{fill, put}

-- ---- an event

-- a member: its name, and the bytes of its value
pub record Attribute : Type 0 where
  pub name : List ℕ
  pub value : List ℕ

-- the value of the member of a name
abbrev pub value_in : List ℕ → List Attribute → Option (List ℕ)
value_in name [] = None
value_in name (member ∷ members) = if bytes_eq member.name name then Some member.value else value_in name members

-- each name comes before the next one in byte order, so that each stands once
abbrev pub NamesRise : List Attribute → Type 0
NamesRise [] = Unit {0}
NamesRise (member ∷ []) = Unit {0}
NamesRise (member ∷ next ∷ members) = (slice_cmp nat_cmp member.name next.name ≡ Less) × NamesRise (next ∷ members)

-- the name as a JSON string, a colon, and the value
abbrev pub member_bytes : Attribute → List ℕ
member_bytes member = member_text member.name member.value

-- in braces
abbrev pub event_bytes : List Attribute → List ℕ
event_bytes members = in_braces (map member_bytes members)

-- the bytes are the event that has exactly these values, in byte order of their names and without spaces
pub record IsEvent (table : List ℕ → Option (List ℕ)) (event : List ℕ) : Type 0 where
  pub members : List Attribute
  pub rise : NamesRise members
  pub are : (name : List ℕ) → value_in name members ≡ table name
  pub spelled : event ≡ event_bytes members

-- ---- the table of values

abbrev pub text_member : List ℕ → List ℕ → Attribute
text_member name text = record { name = name; value = string_of text }

-- a member that is there only with its text
abbrev pub optional_member : List ℕ → Option (List ℕ) → List Attribute
optional_member name None = []
optional_member name (Some text) = text_member name text ∷ []

-- what each event has, whatever was sent
abbrev pub set_members : Sent → List Attribute
set_members sent = text_member (codes "pubsubname") sent.pubsub ∷ text_member (codes "topic") sent.topic ∷ []

-- the trace fields
abbrev pub trace_members : Sent → List Attribute
trace_members sent = optional_member (codes "traceid") sent.traceparent ++ optional_member (codes "traceparent") sent.traceparent ++ optional_member (codes "tracestate") sent.tracestate

-- what is filled in where it is absent
abbrev pub filled_members : Sent → List ℕ → List ℕ → List Attribute
filled_members sent id time =
    text_member (codes "id") id
    ∷ text_member (codes "source") sent.app
    ∷ text_member (codes "specversion") (codes "1.0")
    ∷ text_member (codes "time") time
    ∷ text_member (codes "type") (codes "com.dapr.event.sent")
    ∷ trace_members sent

-- the value that an event has under a name: what is set, or else what was given, or else what is filled in
abbrev pub table : (List ℕ → Option (List ℕ)) → Sent → List ℕ → List ℕ → List ℕ → Option (List ℕ)
table given sent id time name = or_else (value_in name (set_members sent)) (or_else (given name) (value_in name (filled_members sent id time)))

-- the content type of data that came as it is
abbrev pub type_of : Option (List ℕ) → List ℕ
type_of None = codes "text/plain"
type_of (Some value) = value

abbrev pub type_member : Sent → Attribute
type_member sent = text_member (codes "datacontenttype") (type_of sent.content_type)

-- data as a text, or in base64
abbrev pub text_data : List ℕ → Attribute
text_data body = text_member (codes "data") body

abbrev pub encoded_data : List ℕ → Attribute
encoded_data body = record { name = codes "data_base64"; value = encoded body }

-- ---- members as they are kept

-- the bytes of a value
abbrev pub spelled_value : List ℕ → ℕ → ℕ → Value → List ℕ
spelled_value body start end (Text text) = string_of text
spelled_value body start end Simple = part body start end
spelled_value body start end Other = part body start end
spelled_value body start end Body = if is_utf8 body then string_of body else []
spelled_value body start end Encoded = encoded body

abbrev pub spelled : List ℕ → Item → List ℕ
spelled body item = spelled_value body item.start item.end item.value

abbrev pub attribute_of : List ℕ → Item → Attribute
attribute_of body item = record { name = item.name; value = spelled body item }

-- the bytes of a member
abbrev pub item_bytes : List ℕ → Item → List ℕ
item_bytes body item = member_bytes (attribute_of body item)

abbrev pub text_item : List ℕ → List ℕ → Item
text_item name text = record { name = name; start = 0; end = 0; value = Text text }

abbrev pub optional_item : List ℕ → Option (List ℕ) → List Item
optional_item name None = []
optional_item name (Some text) = text_item name text ∷ []

abbrev pub own_items : Sent → List ℕ → List ℕ → List Item
own_items sent id time =
    text_item (codes "id") id
    ∷ text_item (codes "source") sent.app
    ∷ text_item (codes "specversion") (codes "1.0")
    ∷ text_item (codes "time") time
    ∷ text_item (codes "type") (codes "com.dapr.event.sent")
    ∷ []

abbrev pub trace_items : Sent → List Item
trace_items sent = optional_item (codes "traceid") sent.traceparent ++ optional_item (codes "traceparent") sent.traceparent ++ optional_item (codes "tracestate") sent.tracestate

-- with what is filled in, and what is set
abbrev pub completed : Sent → List ℕ → List ℕ → List Item → List Item
completed sent id time items = put (text_item (codes "pubsubname") sent.pubsub) (put (text_item (codes "topic") sent.topic) (fold fill (fold fill items (own_items sent id time)) (trace_items sent)))
