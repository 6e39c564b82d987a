-- Where the values of a text stand, which of them have names, and how deep they are nested.
use Rattle.std.specs.Prelude.{◌≡◌, ℕ, ◌+◌, ◌-◌, ◌<◌, ◌≤◌, Bool, true, false, ⊤, List, length, take, drop, max, Option, Some, None, is_some}
use Rattle.json_lexemes.specs.declared.kind.Kind.{Kind}
use Rattle.json_lexemes.specs.declared.kind.Kind.TheVariants as kinds
use Rattle.json_text.specs.declared.spot.Span.{Span}
use Rattle.json_text.specs.declared.spot.Spot.{Spot}
use Rattle.json_text.specs.Forest.{Forest, empty, grows}

abbrev pub is_map : Kind → Bool
is_map kinds.Map = true
is_map other = false

abbrev pub is_list : Kind → Bool
is_list kinds.List = true
is_list other = false

abbrev pub is_text : Kind → Bool
is_text kinds.Text = true
is_text other = false

abbrev pub is_null : Kind → Bool
is_null kinds.Null = true
is_null other = false

-- lists and maps hold other values
abbrev pub is_holder : Kind → Bool
is_holder kinds.List = true
is_holder kinds.Map = true
is_holder other = false

abbrev pub IsEmpty : Forest → Type 0
IsEmpty empty = ⊤
IsEmpty (grows spot children later) = ⊥

-- a name stands before its value
abbrev pub StandsBefore : Option Span → ℕ → Type 0
StandsBefore None start = ⊤
StandsBefore (Some name) start = (name.start + 2 ≤ name.end) × (name.end ≤ start)

-- A value of at least one byte stands between two places. It has a name exactly where `named` says so, which stands before
-- it. A value that is neither a list nor a map holds nothing.
pub record Fits (named : Bool) (from to : ℕ) (spot : Spot) (children : Forest) : Type 0 where
  pub low : from ≤ spot.span.start
  pub some : spot.span.start < spot.span.end
  pub high : spot.span.end ≤ to
  pub name : is_some spot.name ≡ named
  pub before : StandsBefore spot.name spot.span.start
  pub leaf : is_holder spot.kind ≡ false → IsEmpty children

-- Values in a row stand one behind the other between two places. What a list or a map holds stands within its brackets,
-- and the values of a map, and no others, have names.
abbrev pub AreInRow : Bool → ℕ → ℕ → Forest → Type 0
AreInRow named from to empty = ⊤
AreInRow named from to (grows spot children later) =
    Fits named from to spot children × AreInRow (is_map spot.kind) (spot.span.start + 1) (spot.span.end - 1) children × AreInRow named spot.span.end to later

-- how many lists and maps stand within one another, at most
abbrev pub levels : Bool → ℕ → ℕ
levels true inner = inner + 1
levels false inner = 0

unfoldable pub nesting : Forest → ℕ
nesting empty = 0
nesting (grows spot children later) = max (levels (is_holder spot.kind) (nesting children)) (nesting later)

-- the bytes of a value
abbrev pub value_bytes : List ℕ → Spot → List ℕ
value_bytes bytes spot = take (spot.span.end - spot.span.start) (drop spot.span.start bytes)

-- A value stands within the bytes, behind its name; what it holds stands within its brackets; and it is nested at most 64
-- deep.
pub record IsPlaced (bytes : List ℕ) (spot : Spot) (children : Forest) : Type 0 where
  pub some : spot.span.start < spot.span.end
  pub within : spot.span.end ≤ length bytes
  pub before : StandsBefore spot.name spot.span.start
  pub leaf : is_holder spot.kind ≡ false → IsEmpty children
  pub held : AreInRow (is_map spot.kind) (spot.span.start + 1) (spot.span.end - 1) children
  pub deep : levels (is_holder spot.kind) (nesting children) ≤ 64
