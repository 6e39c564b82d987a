-- Which members a sent event may have (CloudEvents 1.0, sections 3 and 4 of its JSON format).
use Rattle.std.specs.Prelude.{◌≡◌, ℕ, ◌≤◌, Bool, true, false, ◌&&◌, ◌||◌, not, nat_le, nat_lt, is_some, List, length, fold, codes, Option, Some, None, if◌then◌else◌}
use Rattle.std.specs.Str.{bytes_eq}
use Rattle.std.specs.Char.{is_ascii_digit, is_ascii_lowercase}
use Rattle.std.specs.List.{list_all}
use Rattle.cloud_events.specs.declared.item.Item.{Item}
use Rattle.cloud_events.specs.declared.item.Value.{Value}
use Rattle.cloud_events.specs.declared.item.Value.TheVariants.{Text, Simple}
use Rattle.cloud_events.specs.declared.sent.EventErr.{EventErr}
use Rattle.cloud_events.specs.declared.sent.EventErr.TheVariants.{NotJson, Attribute, BothData, BadBase64, BadTime, NoMemory}
use Rattle.cloud_events.specs.Base.{IsBase64}
use Rattle.cloud_events.specs.Clock.{IsTime}

-- ---- one member

abbrev pub is_data_name : List ℕ → Bool
is_data_name name = bytes_eq name (codes "data") || bytes_eq name (codes "data_base64")

-- attributes that are texts of at least one byte
abbrev pub needs_text : List ℕ → Bool
needs_text name =
    bytes_eq name (codes "id") || bytes_eq name (codes "source") || bytes_eq name (codes "type") || bytes_eq name (codes "subject") || bytes_eq name (codes "dataschema") || bytes_eq name (codes "datacontenttype")

abbrev pub is_name_byte : ℕ → Bool
is_name_byte byte = is_ascii_lowercase byte || is_ascii_digit byte

-- lower-case ASCII letters and digits, at least one
abbrev pub is_attribute_name : List ℕ → Bool
is_attribute_name name = nat_le 1 (length name) && list_all is_name_byte name

abbrev pub is_version : Value → Bool
is_version (Text text) = bytes_eq text (codes "1.0")
is_version _ = false

abbrev pub is_some_text : Value → Bool
is_some_text (Text text) = nat_le 1 (length text)
is_some_text _ = false

-- a text, a truth value, or a whole number of 32 bits with its sign
abbrev pub is_simple : Value → Bool
is_simple (Text text) = true
is_simple Simple = true
is_simple _ = false

-- what an attribute other than `data` and `data_base64` must be
abbrev pub is_attribute : List ℕ → Value → Bool
is_attribute name value =
    if bytes_eq name (codes "specversion") then is_version value
    else if needs_text name then is_some_text value
    else is_attribute_name name && is_simple value

abbrev pub is_right : Item → Bool
is_right item = is_data_name item.name || is_attribute item.name item.value

abbrev pub is_wrong : Item → Bool
is_wrong item = not (is_right item)

abbrev pub IsBaseValue : Value → Type 0
IsBaseValue (Text text) = IsBase64 text
IsBaseValue _ = ⊥

abbrev pub IsTimeValue : Value → Type 0
IsTimeValue (Text text) = IsTime text
IsTimeValue _ = ⊥

-- ---- all members, told by their names

-- all are attributes, or data
abbrev pub AreRight : (List ℕ → Option Item) → Type 0
AreRight told = (name : List ℕ) (item : Item) → told name ≡ Some item → is_wrong item ≡ false

-- of those that are not, the value of this one stands first in the body
pub record IsFirstWrong (told : List ℕ → Option Item) (name : List ℕ) : Type 0 where
  pub item : Item
  pub there : told name ≡ Some item
  pub wrong : is_wrong item ≡ true
  pub first : (other : List ℕ) (next : Item) → told other ≡ Some next → is_wrong next ≡ true → item.start ≤ next.start

-- data stands there twice
abbrev pub are_both : (List ℕ → Option Item) → Bool
are_both told = is_some (told (codes "data")) && is_some (told (codes "data_base64"))

abbrev pub IsGoodBase : (List ℕ → Option Item) → Type 0
IsGoodBase told = (item : Item) → told (codes "data_base64") ≡ Some item → IsBaseValue item.value

pub record IsBadBase (told : List ℕ → Option Item) (at : ℕ) : Type 0 where
  pub item : Item
  pub there : told (codes "data_base64") ≡ Some item
  pub bad : ¬ IsBaseValue item.value
  pub place : at ≡ item.start

abbrev pub IsGoodTime : (List ℕ → Option Item) → Type 0
IsGoodTime told = (item : Item) → told (codes "time") ≡ Some item → IsTimeValue item.value

pub record IsBadTime (told : List ℕ → Option Item) : Type 0 where
  pub item : Item
  pub there : told (codes "time") ≡ Some item
  pub bad : ¬ IsTimeValue item.value

-- what is said of data and time
abbrev pub IsDataFault : (List ℕ → Option Item) → EventErr → Type 0
IsDataFault told (NotJson at) = ⊥
IsDataFault told (Attribute name) = ⊥
IsDataFault told BothData = are_both told ≡ true
IsDataFault told (BadBase64 at) = (are_both told ≡ false) × IsBadBase told at
IsDataFault told BadTime = (are_both told ≡ false) × IsGoodBase told × IsBadTime told
IsDataFault told NoMemory = Unit {0}

-- why the members are no event's, tested in this order: an attribute, both kinds of data, base64, the time
abbrev pub IsFault : (List ℕ → Option Item) → EventErr → Type 0
IsFault told (NotJson at) = ⊥
IsFault told (Attribute name) = IsFirstWrong told name
IsFault told BothData = AreRight told × (are_both told ≡ true)
IsFault told (BadBase64 at) = AreRight told × (are_both told ≡ false) × IsBadBase told at
IsFault told BadTime = AreRight told × (are_both told ≡ false) × IsGoodBase told × IsBadTime told
IsFault told NoMemory = Unit {0}

-- the members are those of an event
pub record AreEvents (told : List ℕ → Option Item) : Type 0 where
  pub right : AreRight told
  pub one : are_both told ≡ false
  pub base : IsGoodBase told
  pub time : IsGoodTime told

-- ---- the first of all, as they are scanned

abbrev pub sooner : Option Item → Item → Option Item
sooner None item = Some item
sooner (Some first) item = if nat_lt item.start first.start then Some item else Some first

abbrev pub earlier : Option Item → Item → Option Item
earlier found item = if is_wrong item then sooner found item else found

abbrev pub first_wrong : List Item → Option Item
first_wrong items = fold earlier None items
