-- The text that the inside of a string spells (RFC 8259, section 7).
use Rattle.std.specs.Prelude.{ℕ, zero, suc, ◌+◌, ◌-◌, ◌*◌, ◌%◌, ◌&&◌, ◌||◌, ◌==◌, nat_lt, if◌then◌else◌, List, [], ◌∷◌, ◌++◌, encode_utf8}
use Rattle.json_lexemes.specs.declared.unescape.Pending.{Pending}
use Rattle.json_lexemes.specs.declared.unescape.Pending.TheVariants.{Between as between, Backslash as backslash, Digits as digits}
use Rattle.json_lexemes.specs.Lexeme.{hex_value, within, is_high_surrogate, is_low_surrogate}

-- what the letter of a short escape stands for
abbrev pub short_value : ℕ → ℕ
short_value byte =
    if byte == 98 then 8 else if byte == 102 then 12 else if byte == 110 then 10 else if byte == 114 then 13 else if byte == 116 then 9 else byte

-- the character that two surrogates make (Unicode, section 3.9), and that any other unit is
abbrev pub character : ℕ → ℕ → ℕ
character high unit = if is_low_surrogate unit && nat_lt 0 high then 0x10000 + (high - 0xd800) * 1024 + (unit - 0xdc00) else unit

-- its bytes; a surrogate alone has none
abbrev pub character_bytes : ℕ → List ℕ
character_bytes c = if nat_lt c 0xd800 || within 0xe000 0x10ffff c then encode_utf8 c else []

-- the unit of an escape once its last digit has come
abbrev pub unit_with : ℕ → ℕ → ℕ
unit_with unit byte = (16 * unit + hex_value byte) % 65536

abbrev pub after_unit : ℕ → Pending
after_unit unit = if is_high_surrogate unit then between unit else between 0

abbrev pub unit_bytes : ℕ → ℕ → List ℕ
unit_bytes high unit = if is_high_surrogate unit then [] else character_bytes (character high unit)

-- what is open after a byte: `high` is a high surrogate that waits for its other half, or 0
abbrev pub after_byte : Pending → ℕ → Pending
after_byte (between high) byte = if byte == 92 then backslash high else between 0
after_byte (backslash high) byte = if byte == 117 then digits high 3 0 else between 0
after_byte (digits high zero unit) byte = after_unit (unit_with unit byte)
after_byte (digits high (suc more) unit) byte = digits high more (unit_with unit byte)

-- the bytes of the text that a byte completes
abbrev pub completed : Pending → ℕ → List ℕ
completed (between high) byte = if byte == 92 then [] else byte ∷ []
completed (backslash high) byte = if byte == 117 then [] else short_value byte ∷ []
completed (digits high zero unit) byte = unit_bytes high (unit_with unit byte)
completed (digits high (suc more) unit) byte = []

unfoldable pub unescaped_from : Pending → List ℕ → List ℕ
unescaped_from pending [] = []
unescaped_from pending (byte ∷ bytes) = completed pending byte ++ unescaped_from (after_byte pending byte) bytes

-- the text that the inside of a string spells
abbrev pub unescaped : List ℕ → List ℕ
unescaped content = unescaped_from (between 0) content
