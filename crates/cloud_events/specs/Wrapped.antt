-- What a body that is published becomes, and why it becomes none.
use Rattle.std.specs.Prelude.{◌≡◌, ◌⊎◌, ℕ, ◌+◌, true, false, List, [], ◌∷◌, length, map, codes, Option, Some, None, option_map, if◌then◌else◌}
use Rattle.std.specs.Str.{is_utf8}
use Rattle.json_text.specs.declared.spot.Spot.{Spot}
use Rattle.json_text.specs.Forest.{Forest, grows}
use Rattle.json_text.specs.Grammar.{IsText}
use Rattle.json_text.specs.Faults.{IsClean, IsFirstBad, IsFirstDeep}
use Rattle.json_text.specs.Shape.{is_map, value_bytes}
use Rattle.json_text.specs.Levels.{first_holder}
use Rattle.cloud_events.specs.declared.sent.Sent.{Sent}
use Rattle.cloud_events.specs.declared.sent.EventErr.{EventErr}
use Rattle.cloud_events.specs.declared.sent.EventErr.TheVariants.{NotJson, Attribute, BothData, BadBase64, BadTime, NoMemory}
use Rattle.cloud_events.specs.declared.item.Item.{Item}
use Rattle.cloud_events.specs.declared.media.Form.{Form}
use Rattle.cloud_events.specs.declared.media.Form.TheVariants.{Event, Json, Plain, Binary}
use Rattle.cloud_events.specs.Clock.{IsTimeOf}
use Rattle.cloud_events.specs.Event.{IsEvent, attribute_of, encoded_data, spelled, table, text_data, type_member, value_in}
use Rattle.cloud_events.specs.Items.{AreSaid, Rise, said}
use Rattle.cloud_events.specs.Judge.{AreEvents, IsFault}
use Rattle.cloud_events.specs.Media.{form_of}

-- ---- what is read

-- the bytes are a JSON text of these values, in which nothing is wrong
pub record IsRead (bytes : List ℕ) (values : Forest) : Type 0 where
  pub text : IsText bytes values
  pub clean : IsClean bytes (length bytes + 1)

-- they are none: the first place that is bad, or where a list or a map begins that stands inside 64 others
abbrev pub IsUnread : List ℕ → ℕ → Type 0
IsUnread bytes at = IsFirstBad bytes at ⊎ IsFirstDeep bytes at

-- ---- what is given

-- an event that was sent: a map whose members are those of an event
pub record IsSentEvent (body : List ℕ) (given : List ℕ → Option (List ℕ)) : Type 0 where
  pub spot : Spot
  pub children : Forest
  pub later : Forest
  pub read : IsRead body (grows spot children later)
  pub is_map : is_map spot.kind ≡ true
  pub events : AreEvents (said body children)
  pub are : (name : List ℕ) → given name ≡ option_map (spelled body) (said body children name)

-- data that is JSON, in which no list or map stands inside 63 others: its bytes without the white space round them
pub record IsJsonData (sent : Sent) (given : List ℕ → Option (List ℕ)) : Type 0 where
  pub spot : Spot
  pub children : Forest
  pub later : Forest
  pub read : IsRead sent.body (grows spot children later)
  pub shallow : first_holder 63 (grows spot children later) ≡ None
  pub are : (name : List ℕ) → given name ≡ value_in name (record { name = codes "data"; value = value_bytes sent.body spot } ∷ type_member sent ∷ [])

-- what a body gives by its form
abbrev pub IsGiven : Form → Sent → (List ℕ → Option (List ℕ)) → Type 0
IsGiven Event sent given = IsSentEvent sent.body given
IsGiven Json sent given = IsJsonData sent given
IsGiven Plain sent given = (name : List ℕ) → given name ≡ value_in name ((if is_utf8 sent.body then text_data sent.body else encoded_data sent.body) ∷ type_member sent ∷ [])
IsGiven Binary sent given = (name : List ℕ) → given name ≡ value_in name (encoded_data sent.body ∷ type_member sent ∷ [])

-- ---- the event

-- the event of a body that is published, with this id and at this moment
pub record IsWrapped (sent : Sent) (id : List ℕ) (now : ℕ) (event : List ℕ) : Type 0 where
  pub given : List ℕ → Option (List ℕ)
  pub is : IsGiven (form_of sent.content_type) sent given
  pub time : List ℕ
  pub moment : IsTimeOf now time
  pub event_is : IsEvent (table given sent id time) event

-- ---- refusals

-- of a JSON text, by its value
abbrev pub IsMapRefusal : List ℕ → Spot → Forest → EventErr → Type 0
IsMapRefusal body spot children (NotJson at) = (is_map spot.kind ≡ false) × (at ≡ 0)
IsMapRefusal body spot children (Attribute name) = (is_map spot.kind ≡ true) × IsFault (said body children) (Attribute name)
IsMapRefusal body spot children BothData = (is_map spot.kind ≡ true) × IsFault (said body children) BothData
IsMapRefusal body spot children (BadBase64 at) = (is_map spot.kind ≡ true) × IsFault (said body children) (BadBase64 at)
IsMapRefusal body spot children BadTime = (is_map spot.kind ≡ true) × IsFault (said body children) BadTime
IsMapRefusal body spot children NoMemory = Unit {0}

-- a text whose value is refused
pub record IsRefusedMap (body : List ℕ) (error : EventErr) : Type 0 where
  pub spot : Spot
  pub children : Forest
  pub later : Forest
  pub read : IsRead body (grows spot children later)
  pub why : IsMapRefusal body spot children error

-- no text, no map, or members that are no event's
abbrev pub IsEventRefusal : List ℕ → EventErr → Type 0
IsEventRefusal body (NotJson at) = IsUnread body at ⊎ IsRefusedMap body (NotJson at)
IsEventRefusal body (Attribute name) = IsRefusedMap body (Attribute name)
IsEventRefusal body BothData = IsRefusedMap body BothData
IsEventRefusal body (BadBase64 at) = IsRefusedMap body (BadBase64 at)
IsEventRefusal body BadTime = IsRefusedMap body BadTime
IsEventRefusal body NoMemory = Unit {0}

-- a text in which a list or a map stands inside 63 others, of which the first begins at the place
pub record IsDeepData (body : List ℕ) (at : ℕ) : Type 0 where
  pub spot : Spot
  pub children : Forest
  pub later : Forest
  pub read : IsRead body (grows spot children later)
  pub holder : Spot
  pub deep : first_holder 63 (grows spot children later) ≡ Some holder
  pub place : at ≡ holder.span.start

abbrev pub IsDataRefusal : List ℕ → EventErr → Type 0
IsDataRefusal body (NotJson at) = IsUnread body at ⊎ IsDeepData body at
IsDataRefusal body (Attribute name) = ⊥
IsDataRefusal body BothData = ⊥
IsDataRefusal body (BadBase64 at) = ⊥
IsDataRefusal body BadTime = ⊥
IsDataRefusal body NoMemory = Unit {0}

-- why a body becomes no event; want of memory is no cause
abbrev pub RefusedAs : Form → List ℕ → EventErr → Type 0
RefusedAs Event body error = IsEventRefusal body error
RefusedAs Json body error = IsDataRefusal body error
RefusedAs Plain body error = error ≡ NoMemory
RefusedAs Binary body error = error ≡ NoMemory

abbrev pub IsRefused : Sent → EventErr → Type 0
IsRefused sent error = RefusedAs (form_of sent.content_type) sent.body error

-- ---- members as they are kept

-- those of an event that was sent
pub record AreSent (body : List ℕ) (items : List Item) : Type 0 where
  pub spot : Spot
  pub children : Forest
  pub later : Forest
  pub read : IsRead body (grows spot children later)
  pub is_map : is_map spot.kind ≡ true
  pub said_are : AreSaid body children items
  pub events : AreEvents (said body children)

-- those that are given
pub record AreGiven (sent : Sent) (items : List Item) : Type 0 where
  pub rise : Rise items
  pub given : List ℕ → Option (List ℕ)
  pub is : IsGiven (form_of sent.content_type) sent given
  pub are : (name : List ℕ) → value_in name (map (attribute_of sent.body) items) ≡ given name
