-- How long the text of a string is.
use Rattle.std.proofs.Common.{◌≡◌, ℕ, zero, suc, ◌+◌, ◌-◌, ◌<◌, ◌≤◌, Bool, true, false, cond, eqb, List, [], ◌∷◌, length, drop, get_or, refl, ap, arith, length-append}
use Rattle.std.proofs.lemmas.List.{length-take-le}
use Rattle.std.proofs.lemmas.Str.{length-encode, len_utf8_bounds}
use lib.Utf8.{encode}
use Rattle.json_lexemes.specs.declared.piece.Piece.{Piece}
use Rattle.json_lexemes.specs.declared.unescape.Pending.{Pending}
use Rattle.json_lexemes.specs.declared.unescape.Pending.TheVariants.{Between as between, Backslash as backslash, Digits as digits}
use Rattle.json_lexemes.specs.Lexeme.{is_high_surrogate}
use Rattle.json_lexemes.specs.Piece.{piece_bytes}
use Rattle.json_lexemes.specs.Unescape.{unescaped_from, unescaped, after_byte, completed, unit_with, short_value, character, character_bytes}
use Rattle.json_lexemes.proofs.Pieces.{unescaped_cons, unescaped_nil, piece_step}

pub piece_length : (piece : Piece) → length (piece_bytes piece) ≡ piece.len
piece_length piece = length-take-le piece.len piece.bytes (omega (arith, piece.short, piece.room))

-- a lower bound of the bytes of an open escape that have come
abbrev credit : Pending → ℕ
credit (between high) = 0
credit (backslash high) = 1
credit (digits high more unit) = 3 - more

some_bytes : (b : Bool) (c : ℕ) → length (cond b (encode c) []) ≤ 4
some_bytes true c = omega (arith, length-encode c, (len_utf8_bounds c).1)
some_bytes false c = omega arith

unit_short : (b : Bool) (high unit : ℕ) → length (cond b [] (character_bytes (character high unit))) ≤ 4
unit_short true high unit = omega arith
unit_short false high unit = some_bytes _ (character high unit)

after_unit_credit : (b : Bool) (unit : ℕ) → credit (cond b (between unit) (between 0)) ≡ 0
after_unit_credit true unit = refl
after_unit_credit false unit = refl

between_step : (b : Bool) (high byte : ℕ) → length (cond b [] (byte ∷ [])) + credit (cond b (backslash high) (between 0)) ≤ 1
between_step true high byte = omega arith
between_step false high byte = omega arith

backslash_step : (b : Bool) (high byte : ℕ) → length (cond b [] (byte ∷ [])) + credit (cond b (digits high 3 0) (between 0)) ≤ 2
backslash_step true high byte = omega arith
backslash_step false high byte = omega arith

step_credit : (state : Pending) (byte : ℕ) → length (completed state byte) + credit (after_byte state byte) ≤ 1 + credit state
step_credit (between high) byte = omega (arith, between_step (eqb byte 92) high byte)
step_credit (backslash high) byte = omega (arith, backslash_step (eqb byte 117) high (short_value byte))
step_credit (digits high zero unit) byte = omega (arith, unit_short (is_high_surrogate (unit_with unit byte)) high (unit_with unit byte), after_unit_credit (is_high_surrogate (unit_with unit byte)) (unit_with unit byte))
step_credit (digits high (suc more) unit) byte = omega arith

-- a text isn't longer than its spelling
text_short : (state : Pending) (bytes : List ℕ) → length (unescaped_from state bytes) ≤ length bytes + credit state
text_short state [] = omega (arith, ap length (unescaped_nil state))
text_short state (byte ∷ bytes) =
    omega (arith, ap length (unescaped_cons state byte bytes), length-append (completed state byte) (unescaped_from (after_byte state byte) bytes), text_short (after_byte state byte) bytes, step_credit state byte)

pub unescaped_short : (bytes : List ℕ) → length (unescaped bytes) ≤ length bytes
unescaped_short bytes = omega (arith, text_short (between 0) bytes)

pub too_long : (bytes text : List ℕ) → length bytes < length text → unescaped bytes ≡ text → ⊥
too_long bytes text longer e = omega (arith, longer, ap length e, unescaped_short bytes)

-- one more piece
pub length_step : (bytes : List ℕ) (k : ℕ) (state next : Pending) (piece : Piece) → k < length bytes → piece_bytes piece ≡ completed state (get_or bytes k 0) → next ≡ after_byte state (get_or bytes k 0) → length (unescaped_from state (drop k bytes)) ≡ piece.len + length (unescaped_from next (drop (k + 1) bytes))
length_step bytes k state next piece lt p n =
    omega (arith, ap length (piece_step bytes k state next (piece_bytes piece) lt p n), length-append (piece_bytes piece) (unescaped_from next (drop (k + 1) bytes)), piece_length piece)

no_bytes : (bytes : List ℕ) → length bytes ≡ 0 → bytes ≡ []
no_bytes [] e = refl
no_bytes (byte ∷ bytes) e = absurd (omega (arith, e))

pub empty_piece : (piece : Piece) → piece.len ≤ 0 → piece_bytes piece ≡ []
empty_piece piece none = no_bytes (piece_bytes piece) (omega (arith, none, piece_length piece))
