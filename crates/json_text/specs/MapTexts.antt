-- A map written of names and of values that are texts by themselves.
use Rattle.std.specs.Prelude.{◌≡◌, ⊤, ℕ, ◌+◌, ◌≤◌, List, [], ◌∷◌, ◌++◌, length, Some, None}
use Rattle.std.specs.Str.{IsUtf8}
use Rattle.json_lexemes.specs.declared.kind.Kind.{Kind}
use Rattle.json_lexemes.specs.declared.kind.Kind.TheVariants as kinds
use Rattle.json_text.specs.declared.spot.Spot.{Spot}
use Rattle.json_text.specs.Forest.{Forest, empty, grows, one}
use Rattle.json_text.specs.Grammar.{IsText}
use Rattle.json_text.specs.Faults.{IsClean}
use Rattle.json_text.specs.Shape.{is_holder, levels, nesting, value_bytes}
use Rattle.json_text.specs.Unescape.{name_shown}
use Rattle.json_lexemes.specs.Spelling.{string_of}
use Rattle.json_text.specs.Moved.{moved}

-- a member to be written: its name, and the bytes of its value, with what they hold
pub record Written : Type 0 where
  pub name : List ℕ
  pub bytes : List ℕ
  pub kind : Kind
  pub children : Forest

-- the name is UTF-8, and the bytes are a text without white space round it, in which nothing is wrong
pub record IsWritten (member : Written) : Type 0 where
  pub utf8 : IsUtf8 member.name
  pub text : IsText member.bytes (one (record { kind = member.kind; span = record { start = 0; end = length member.bytes }; name = None }) member.children)
  pub clean : IsClean member.bytes (length member.bytes + 1)

-- the value is nested so deep at most
abbrev pub IsDeep : ℕ → Written → Type 0
IsDeep most member = levels (is_holder member.kind) (nesting member.children) ≤ most

-- the name as a JSON string, a colon, and the value
abbrev pub member_bytes : Written → List ℕ
member_bytes member = string_of member.name ++ 58 ∷ member.bytes

-- joined by commas
abbrev pub joined_bytes : List Written → List ℕ
joined_bytes [] = []
joined_bytes (member ∷ []) = member_bytes member
joined_bytes (member ∷ next ∷ members) = member_bytes member ++ 44 ∷ joined_bytes (next ∷ members)

-- in braces
abbrev pub map_bytes : List Written → List ℕ
map_bytes members = 123 ∷ (joined_bytes members ++ 125 ∷ [])

-- so many places ahead
abbrev pub ahead : ℕ → ℕ → ℕ
ahead by place = place + by

-- where the value of a member stands that begins at a place
abbrev pub value_place : ℕ → Written → ℕ
value_place at member = at + length (string_of member.name) + 1

abbrev pub member_spot : ℕ → Written → Spot
member_spot at member = record {
  kind = member.kind;
  span = record { start = value_place at member; end = value_place at member + length member.bytes };
  name = Some (record { start = at; end = at + length (string_of member.name) });
}

-- the values of members that begin at a place
abbrev pub member_values : ℕ → List Written → Forest
member_values at [] = empty
member_values at (member ∷ members) = grows (member_spot at member) (moved (ahead (value_place at member)) member.children) (member_values (value_place at member + length member.bytes + 1) members)

-- the map of these members
abbrev pub map_of : List Written → Forest
map_of members = one (record { kind = kinds.Map; span = record { start = 0; end = length (map_bytes members) }; name = None }) (member_values 1 members)

-- in these bytes the members that begin at a place have their names, and their values have their bytes
abbrev pub ShowsMembers : List ℕ → ℕ → List Written → Type 0
ShowsMembers bytes at [] = ⊤
ShowsMembers bytes at (member ∷ members) =
    (name_shown bytes (member_spot at member) ≡ member.name) × (value_bytes bytes (member_spot at member) ≡ member.bytes) × ShowsMembers bytes (value_place at member + length member.bytes + 1) members
