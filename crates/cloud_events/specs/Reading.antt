-- What is found of data.
use Rattle.std.specs.Prelude.{◌≡◌, ℕ, List, [], ◌∷◌, codes, None}
use Rattle.json_text.specs.declared.error.JsonErr.{JsonErr}
use Rattle.json_text.specs.declared.error.JsonErr.TheVariants.{Bad, Deep, NoMemory as no_room}
use Rattle.json_text.specs.declared.spot.Spot.{Spot}
use Rattle.json_text.specs.Forest.{Forest, grows}
use Rattle.json_text.specs.Levels.{first_holder}
use Rattle.cloud_events.specs.declared.sent.Sent.{Sent}
use Rattle.cloud_events.specs.declared.sent.EventErr.{EventErr}
use Rattle.cloud_events.specs.declared.sent.EventErr.TheVariants.{NotJson, NoMemory}
use Rattle.cloud_events.specs.declared.item.Item.{Item}
use Rattle.cloud_events.specs.declared.item.Value.TheVariants.{Other, Body, Encoded}
use Rattle.cloud_events.specs.Event.{text_item, type_of}
use Rattle.cloud_events.specs.Wrapped.{IsRead}

abbrev pub IsUnreadBy : JsonErr → EventErr → Type 0
IsUnreadBy (Bad at) error = error ≡ NotJson at
IsUnreadBy (Deep at) error = error ≡ NotJson at
IsUnreadBy no_room error = error ≡ NoMemory

-- ---- data

abbrev pub span_item : ℕ → ℕ → Item
span_item start end = record { name = codes "data"; start = start; end = end; value = Other }

abbrev pub body_item : Item
body_item = record { name = codes "data"; start = 0; end = 0; value = Body }

abbrev pub encoded_item : Item
encoded_item = record { name = codes "data_base64"; start = 0; end = 0; value = Encoded }

-- the data, and its content type
abbrev pub IsData : Item → Sent → List Item → Type 0
IsData data_item sent items = items ≡ data_item ∷ text_item (codes "datacontenttype") (type_of sent.content_type) ∷ []

-- the data is all of a JSON text
pub record AreData (sent : Sent) (items : List Item) : Type 0 where
  pub spot : Spot
  pub children : Forest
  pub later : Forest
  pub read : IsRead sent.body (grows spot children later)
  pub shallow : first_holder 63 (grows spot children later) ≡ None
  pub are : IsData (span_item spot.span.start spot.span.end) sent items
