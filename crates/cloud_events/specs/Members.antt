-- The members of a JSON map by their names (RFC 8259, section 4). Of repeated members the last counts; null counts as absent.
use Rattle.std.specs.Prelude.{ℕ, Bool, true, false, List, Option, Some, None, ⊤, if◌then◌else◌}
use Rattle.std.specs.Str.{bytes_eq}
use Rattle.json_text.specs.declared.spot.Span.{Span}
use Rattle.json_text.specs.declared.spot.Spot.{Spot}
use Rattle.json_text.specs.declared.doc.Doc.{Doc}
use Rattle.json_text.specs.declared.doc.Node.{Node}
use Rattle.json_text.specs.Forest.{Forest, empty, grows}
use Rattle.json_text.specs.Unescape.{unescaped, content}
use Rattle.json_text.specs.Doc.{StandsAt}
pub use Rattle.json_text.specs.Shape.{is_null}

abbrev pub has_name : List ℕ → Option Span → List ℕ → Bool
has_name bytes None name = false
has_name bytes (Some span) name = bytes_eq (unescaped (content bytes span)) name

-- the first of two, or else the second
abbrev pub or_else : {A : Type 0} → Option A → Option A → Option A
or_else None other = other
or_else (Some value) other = Some value

-- the last value of a row that is a member of the name
abbrev pub last_of : List ℕ → List ℕ → Forest → Option Spot
last_of bytes name empty = None
last_of bytes name (grows spot children later) = or_else (last_of bytes name later) (if has_name bytes spot.name name then Some spot else None)

abbrev pub unless_null : Option Spot → Option Spot
unless_null None = None
unless_null (Some spot) = if is_null spot.kind then None else Some spot

-- the member of a name, if it is there
abbrev pub member_of : List ℕ → List ℕ → Forest → Option Spot
member_of bytes name children = unless_null (last_of bytes name children)

-- ---- nodes

-- the node is that of the value
abbrev pub IsAt : Doc → Node → Spot → Type 0
IsAt doc node spot = (children : Forest) × (later : Forest) × StandsAt doc node (grows spot children later)

-- of a value that may be absent
abbrev pub AreAt : Doc → Option Node → Option Spot → Type 0
AreAt doc None None = ⊤
AreAt doc None (Some spot) = ⊥
AreAt doc (Some node) None = ⊥
AreAt doc (Some node) (Some spot) = IsAt doc node spot
