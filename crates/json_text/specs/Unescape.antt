-- The texts of values and of their names, and what they are made of.
use Rattle.std.specs.Prelude.{◌≡◌, ℕ, ◌+◌, ◌-◌, List, [], take, drop, MatchOption, Option, Some, None}
use Rattle.json_lexemes.specs.declared.kind.Kind.{Kind}
use Rattle.json_lexemes.specs.declared.kind.Kind.TheVariants as kinds
use Rattle.json_text.specs.declared.spot.Span.{Span}
use Rattle.json_text.specs.declared.spot.Spot.{Spot}
unfoldable pub use Rattle.json_lexemes.specs.Unescape.{unescaped_from}
pub use Rattle.json_lexemes.specs.Unescape.{unescaped, after_byte, completed, short_value, character, character_bytes, unit_with, after_unit, unit_bytes}

-- the bytes between the quotes of a string
abbrev pub content : List ℕ → Span → List ℕ
content bytes span = take (span.end - 1 - (span.start + 1)) (drop (span.start + 1) bytes)

-- the text of a value: none but a string has one
abbrev pub text_in : List ℕ → Spot → Kind → List ℕ
text_in bytes spot kinds.Text = unescaped (content bytes spot.span)
text_in bytes spot other = []

abbrev pub text_shown : List ℕ → Spot → List ℕ
text_shown bytes spot = text_in bytes spot spot.kind

-- the name of a member
abbrev pub name_in : List ℕ → Option Span → List ℕ
name_in bytes None = []
name_in bytes (Some span) = unescaped (content bytes span)

abbrev pub name_shown : List ℕ → Spot → List ℕ
name_shown bytes spot = name_in bytes spot.name

-- the value is this text
abbrev pub IsTextAs : List ℕ → Spot → List ℕ → Kind → Type 0
IsTextAs bytes spot text kinds.Text = unescaped (content bytes spot.span) ≡ text
IsTextAs bytes spot text other = ⊥

abbrev pub HasText : List ℕ → Spot → List ℕ → Type 0
HasText bytes spot text = IsTextAs bytes spot text spot.kind

-- the value is a member of this name
abbrev pub HasName : List ℕ → Spot → List ℕ → Type 0
HasName bytes spot name = MatchOption spot.name ⊥ (λ span. unescaped (content bytes span) ≡ name)
