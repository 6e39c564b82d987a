-- Numbered escapes, and those of them that are a surrogate without its other half (Unicode, section 3.8).
use Rattle.std.specs.Prelude.{ℕ, ◌+◌, ◌*◌, Bool, false, ◌&&◌, ◌||◌, not, ◌==◌, List, slice_index}
use Rattle.json_lexemes.specs.declared.lexeme.Lexeme.{Lexeme}
use Rattle.json_lexemes.specs.declared.lexeme.Lexeme.TheVariants.{Plain as plain}
use Rattle.json_lexemes.specs.Lexeme.{hex_value, is_hex_digit, is_high_surrogate, is_low_surrogate}

abbrev pub hex_at : List ℕ → ℕ → Bool
hex_at bytes i = is_hex_digit (slice_index bytes i)

-- a numbered escape stands at the place
unfoldable pub is_numbered : List ℕ → ℕ → Bool
is_numbered bytes at = slice_index bytes at == 92 && slice_index bytes (at + 1) == 117 && hex_at bytes (at + 2) && hex_at bytes (at + 3) && hex_at bytes (at + 4) && hex_at bytes (at + 5)

-- its number
unfoldable pub unit_of : List ℕ → ℕ → ℕ
unit_of bytes at =
    4096 * hex_value (slice_index bytes (at + 2)) + 256 * hex_value (slice_index bytes (at + 3)) + 16 * hex_value (slice_index bytes (at + 4)) + hex_value (slice_index bytes (at + 5))

abbrev pub is_high_escape : List ℕ → ℕ → Bool
is_high_escape bytes at = is_numbered bytes at && is_high_surrogate (unit_of bytes at)

abbrev pub is_low_escape : List ℕ → ℕ → Bool
is_low_escape bytes at = is_numbered bytes at && is_low_surrogate (unit_of bytes at)

-- At the place in a string stands the escape of a lone surrogate: a high one that the escape of a low one doesn't follow
-- at once, or a low one that doesn't so follow the escape of a high one, as `high` says.
abbrev pub is_lone : Bool → List ℕ → ℕ → Bool
is_lone high bytes at = (is_high_escape bytes at && not (is_low_escape bytes (at + 6))) || (is_low_escape bytes at && not high)

abbrev pub is_lone_in : Lexeme → List ℕ → ℕ → Bool
is_lone_in (plain high) bytes at = is_lone high bytes at
is_lone_in other bytes at = false
