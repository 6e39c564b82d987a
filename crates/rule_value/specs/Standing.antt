-- Values of the code, and those that they stand for.
use Rattle.std.specs.Prelude.{◌≡◌, ⊤, true, List, [], ◌∷◌, Option, Some, None}
use Rattle.std.specs.Str.{is_utf8}
use Rattle.json_text.specs.declared.doc.Doc.{Doc}
use Rattle.json_text.specs.declared.doc.Node.{Node}
use Rattle.json_text.specs.declared.spot.Spot.{Spot}
use Rattle.json_text.specs.Forest.{Forest, grows}
use Rattle.json_text.specs.Doc.{bytes_read, IsNode, IsRoot, StandsAt}
use Rattle.json_text.specs.Unescape.{text_shown}
use Rattle.rule_value.specs.declared.value.Value.{Value as Held}
use Rattle.rule_value.specs.declared.value.Value.TheVariants as held
use Rattle.rule_value.specs.Values.{Event, Value, text, number, flag, null, other, error}

-- the node is that of the first of these values
pub record IsAt (doc : Doc) (node : Node) (values : Forest) : Type 0 where
  pub inside : IsNode doc node
  pub spot : Spot
  pub children : Forest
  pub later : Forest
  pub are : values ≡ grows spot children later
  pub stands : StandsAt doc node (grows spot children later)

-- the event is what the document shows
pub record IsEvent (doc : Doc) (event : Event) : Type 0 where
  pub bytes : event.bytes ≡ bytes_read doc
  pub spot : Spot
  pub children : Forest
  pub later : Forest
  pub values : event.values ≡ grows spot children later
  pub stands : (root : Node) → IsRoot root → StandsAt doc root (grows spot children later)

-- of the text of this value
pub record IsToldAt (doc : Doc) (node : Node) (value : Value) : Type 0 where
  pub inside : IsNode doc node
  pub spot : Spot
  pub children : Forest
  pub later : Forest
  pub stands : StandsAt doc node (grows spot children later)
  pub is : value ≡ text (text_shown (bytes_read doc) spot)

-- what a value of the code stands for
abbrev pub Is : Doc → Held → Value → Type 0
Is doc (held.Own own) value = value ≡ text own.now
Is doc (held.Told node) value = IsToldAt doc node value
Is doc (held.Number whole) value = value ≡ number whole
Is doc (held.Flag on) value = value ≡ flag on
Is doc held.Null value = value ≡ null
Is doc held.Other value = value ≡ other
Is doc held.Error value = value ≡ error

abbrev pub Are : Doc → List Held → List Value → Type 0
Are doc [] [] = ⊤
Are doc [] (value ∷ values) = ⊥
Are doc (one ∷ rest) [] = ⊥
Are doc (one ∷ rest) (value ∷ values) = Is doc one value × Are doc rest values

-- the node of a member
abbrev pub IsFound : Doc → Option Node → Option Forest → Type 0
IsFound doc None None = ⊤
IsFound doc None (Some values) = ⊥
IsFound doc (Some node) None = ⊥
IsFound doc (Some node) (Some values) = IsAt doc node values

-- a text of the rule is UTF-8, and one of the event is one of the document's
abbrev pub IsReadable : Doc → Held → Type 0
IsReadable doc (held.Own own) = is_utf8 own.now ≡ true
IsReadable doc (held.Told node) = IsNode doc node
IsReadable doc value = ⊤

abbrev pub AreReadable : Doc → List Held → Type 0
AreReadable doc [] = ⊤
AreReadable doc (value ∷ values) = IsReadable doc value × AreReadable doc values
