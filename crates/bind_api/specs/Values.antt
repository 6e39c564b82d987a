-- The values of a JSON text by their names (RFC 8259, section 4). Of repeated members the last counts; null counts as absent.
use Rattle.std.specs.Prelude.{◌≡◌, ℕ, Bool, false, List, [], ◌∷◌, Option, Some, None, Result, Ok, Err, ⊤, if◌then◌else◌}
use Rattle.std.specs.Str.{bytes_eq}
use Rattle.json_text.specs.declared.spot.Span.{Span}
use Rattle.json_text.specs.declared.spot.Spot.{Spot}
use Rattle.json_text.specs.declared.doc.Doc.{Doc}
use Rattle.json_text.specs.declared.doc.Node.{Node}
use Rattle.json_text.specs.Forest.{Forest, empty, grows}
use Rattle.json_text.specs.Shape.{is_null, is_text}
use Rattle.json_text.specs.Unescape.{unescaped, content, text_shown}
use Rattle.json_text.specs.Doc.{StandsAt}
use Rattle.bind_api.specs.declared.malformed.Wrong.{Wrong}
use Rattle.bind_api.specs.declared.malformed.Wrong.TheVariants.{Shape}
use Rattle.bind_api.specs.Given.{provided}

-- a value with what it holds
pub record Value : Type 0 where
  pub spot : Spot
  pub children : Forest

-- the values of a row
abbrev pub values_in : Forest → List Value
values_in empty = []
values_in (grows spot children later) = record { spot = spot; children = children } ∷ values_in later

-- what a list or a map holds
abbrev pub held_in : Value → List Value
held_in value = values_in value.children

-- ---- names

abbrev pub has_name : List ℕ → Option Span → List ℕ → Bool
has_name bytes None name = false
has_name bytes (Some span) name = bytes_eq (unescaped (content bytes span)) name

-- the first of two, or else the second
abbrev pub or_else : Option Value → Option Value → Option Value
or_else None other = other
or_else (Some value) other = Some value

-- the last of some values that is a member of the name
abbrev pub last_named : List ℕ → List ℕ → List Value → Option Value
last_named bytes name [] = None
last_named bytes name (value ∷ later) =
    or_else (last_named bytes name later) (if has_name bytes value.spot.name name then Some value else None)

abbrev pub unless_null : Option Value → Option Value
unless_null None = None
unless_null (Some value) = if is_null value.spot.kind then None else Some value

-- the member of a name, if it is there
abbrev pub member : List ℕ → List ℕ → Value → Option Value
member bytes name value = unless_null (last_named bytes name (held_in value))

-- ---- texts

abbrev pub text_of : List ℕ → Value → Result (List ℕ) Wrong
text_of bytes value = provided (is_text value.spot.kind) Shape (Ok (text_shown bytes value.spot))

-- a text that must be there
abbrev pub needed : List ℕ → Option Value → Result (List ℕ) Wrong
needed bytes None = Err Shape
needed bytes (Some value) = text_of bytes value

-- a text that may be absent, and is empty then
abbrev pub text_or_none : List ℕ → Option Value → Result (List ℕ) Wrong
text_or_none bytes None = Ok []
text_or_none bytes (Some value) = text_of bytes value

-- ---- nodes

-- the node is the value's
abbrev pub IsAt : Doc → Node → Value → Type 0
IsAt doc node value = (later : Forest) × StandsAt doc node (grows value.spot value.children later)

-- of a value that may be absent
abbrev pub AreAt : Doc → Option Node → Option Value → Type 0
AreAt doc None None = ⊤
AreAt doc None (Some value) = ⊥
AreAt doc (Some node) None = ⊥
AreAt doc (Some node) (Some value) = IsAt doc node value
