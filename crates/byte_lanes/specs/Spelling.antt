-- How a text is written inside a JSON string (RFC 8259, section 7): the short escapes where there is one, other
-- controls by their number, and all else as it is.
use Rattle.std.specs.Prelude.{ℕ, ◌+◌, ◌/◌, ◌%◌, List, [], ◌∷◌, ◌==◌, nat_lt, if◌then◌else◌}
use Rattle.std.specs.List.{flat_map}

-- the digit of a number below 16, in lower case
abbrev pub hex_digit : ℕ → ℕ
hex_digit n = if nat_lt n 10 then n + 48 else n + 87

-- the letter of the control's short escape, or 0 where it has none: `\b`, `\t`, `\n`, `\f`, `\r`
abbrev pub short_letter : ℕ → ℕ
short_letter byte =
    if byte == 8 then 98 else if byte == 9 then 116 else if byte == 10 then 110 else if byte == 12 then 102
    else if byte == 13 then 114 else 0

-- `\u` and the four digits of a byte
abbrev pub numbered : ℕ → List ℕ
numbered byte = 0x5c ∷ 117 ∷ 48 ∷ 48 ∷ hex_digit (byte / 16) ∷ hex_digit (byte % 16) ∷ []

-- the spelling of one byte
unfoldable pub spelled_byte : ℕ → List ℕ
spelled_byte byte =
    if byte == 0x22 then 0x5c ∷ 0x22 ∷ []
    else if byte == 0x5c then 0x5c ∷ 0x5c ∷ []
    else if nat_lt byte 0x20 then
    (if short_letter byte == 0 then numbered byte else 0x5c ∷ short_letter byte ∷ [])
    else byte ∷ []

-- the spelling of a text, without its quotes
abbrev pub spelled : List ℕ → List ℕ
spelled text = flat_map spelled_byte text
