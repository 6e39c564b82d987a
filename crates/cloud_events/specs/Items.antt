-- Members of an event.
use Rattle.std.specs.Prelude.{◌≡◌, ℕ, ◌-◌, Bool, ◌&&◌, ◌==◌, nat_le, List, [], ◌∷◌, length, take, drop, find, codes, Option, option_map, if◌then◌else◌}
use Rattle.std.specs.Str.{bytes_eq}
use Rattle.std.specs.Str.Parse.{digits_value}
use Rattle.std.specs.Ordering.{nat_cmp}
use Rattle.std.specs.declared.cmp.Ordering.TheVariants.{Less}
use Rattle.std.specs.Cmp.Lexicographic.{slice_cmp}
use Rattle.side_base.specs.Decimal.{digits_at, after_digits}
use Rattle.json_text.specs.Kind.{Kind}
use Rattle.json_text.specs.Kind.TheVariants as kinds
use Rattle.json_text.specs.declared.spot.Spot.{Spot}
use Rattle.json_text.specs.Forest.{Forest}
use Rattle.json_text.specs.Shape.{value_bytes}
use Rattle.json_text.specs.Unescape.{text_shown}
use Rattle.cloud_events.specs.declared.item.Item.{Item}
use Rattle.cloud_events.specs.declared.item.Value.{Value}
use Rattle.cloud_events.specs.declared.item.Value.TheVariants.{Text, Simple, Other}
use Rattle.cloud_events.specs.Members.{member_of}

-- the bytes between two places
abbrev pub part : List ℕ → ℕ → ℕ → List ℕ
part bytes start end = take (end - start) (drop start bytes)

-- ---- by their names

abbrev pub is_item : List ℕ → Item → Bool
is_item name item = bytes_eq item.name name

-- the first member of a name
unfoldable pub item_in : List ℕ → List Item → Option Item
item_in name items = find (is_item name) items

-- each name comes before the next one in byte order, so that each stands once
abbrev pub Rise : List Item → Type 0
Rise [] = Unit {0}
Rise (item ∷ []) = Unit {0}
Rise (item ∷ next ∷ items) = (slice_cmp nat_cmp item.name next.name ≡ Less) × Rise (next ∷ items)

-- ---- members of a JSON map

-- digits alone, which make `most` at most
abbrev pub is_whole : ℕ → List ℕ → Bool
is_whole most text = length (after_digits text) == 0 && nat_le (digits_value 10 (digits_at text)) most

-- a number without fraction and exponent, from -2147483648 to 2147483647
abbrev pub is_int32 : List ℕ → Bool
is_int32 [] = is_whole 2147483647 []
is_int32 (byte ∷ digits) = if byte == 45 then is_whole 2147483648 digits else is_whole 2147483647 (byte ∷ digits)

abbrev pub number_value : List ℕ → Value
number_value number = if is_int32 number then Simple else Other

abbrev pub by_kind : List ℕ → Spot → Kind → Value
by_kind bytes spot kinds.Text = Text (text_shown bytes spot)
by_kind bytes spot kinds.Number = number_value (value_bytes bytes spot)
by_kind bytes spot (kinds.Flag on) = Simple
by_kind bytes spot other = Other

-- what a member is; `data` stays as it stands, whatever it is
abbrev pub value_at : List ℕ → List ℕ → Spot → Value
value_at bytes name spot = if bytes_eq name (codes "data") then Other else by_kind bytes spot spot.kind

abbrev pub item_at : List ℕ → List ℕ → Spot → Item
item_at bytes name spot = record { name = name; start = spot.span.start; end = spot.span.end; value = value_at bytes name spot }

-- the member of a name of a map, if it is there: the last of them, unless it is null
abbrev pub said : List ℕ → Forest → List ℕ → Option Item
said bytes children name = option_map (item_at bytes name) (member_of bytes name children)

-- the members of a map, in order of their names
pub record AreSaid (bytes : List ℕ) (children : Forest) (items : List Item) : Type 0 where
  pub rise : Rise items
  pub are : (name : List ℕ) → item_in name items ≡ said bytes children name
