-- The words of JSON, byte by byte: numbers (RFC 8259, section 6), strings (section 7, in UTF-8 as RFC 3629 has it)
-- and the three literals (section 3). Each state says what has been read of a word, and `next` what may follow.
use Rattle.std.specs.Prelude.{◌≡◌, ℕ, zero, suc, ◌+◌, ◌-◌, ◌*◌, ◌%◌, drop, Bool, true, false, ◌&&◌, ◌||◌, ◌==◌, nat_lt, nat_le, if◌then◌else◌, List, [], ◌∷◌, Option, Some, None}
use Rattle.json_lexemes.specs.declared.lexeme.Second.{Second}
use Rattle.json_lexemes.specs.declared.lexeme.Second.TheVariants.{Any as any, FromA0 as from_a0, To9F as to_9f, From90 as from_90, To8F as to_8f}
use Rattle.json_lexemes.specs.declared.lexeme.Lexeme.{Lexeme}
use Rattle.json_lexemes.specs.declared.lexeme.Lexeme.TheVariants.{Minus as minus, LeadingZero as leading_zero, Integer as integer, Point as point, Decimals as decimals, Exponent as exponent, ExponentSign as exponent_sign, ExponentDigits as exponent_digits, Letters as letters, Plain as plain, Tail as tail, Escape as escape, Digits as digits, Closed as closed}
use Rattle.json_lexemes.specs.declared.kind.Kind.{Kind}
use Rattle.json_lexemes.specs.declared.kind.Kind.TheVariants as kinds

abbrev pub least : Second → ℕ
least any = 0x80
least from_a0 = 0xa0
least to_9f = 0x80
least from_90 = 0x90
least to_8f = 0x80

abbrev pub greatest : Second → ℕ
greatest any = 0xbf
greatest from_a0 = 0xbf
greatest to_9f = 0x9f
greatest from_90 = 0xbf
greatest to_8f = 0x8f

-- the letters of a literal
abbrev pub literal : Kind → List ℕ
literal kinds.Null = 110 ∷ 117 ∷ 108 ∷ 108 ∷ []
literal (kinds.Flag true) = 116 ∷ 114 ∷ 117 ∷ 101 ∷ []
literal (kinds.Flag false) = 102 ∷ 97 ∷ 108 ∷ 115 ∷ 101 ∷ []
literal kinds.Number = []
literal kinds.Text = []
literal kinds.List = []
literal kinds.Map = []

abbrev pub within : ℕ → ℕ → ℕ → Bool
within low high byte = nat_le low byte && nat_le byte high

abbrev pub is_digit : ℕ → Bool
is_digit byte = within 48 57 byte

abbrev pub hex_value : ℕ → ℕ
hex_value byte = if is_digit byte then byte - 48 else if within 65 70 byte then byte - 55 else byte - 87

abbrev pub is_hex_digit : ℕ → Bool
is_hex_digit byte = is_digit byte || within 65 70 byte || within 97 102 byte

abbrev pub is_high_surrogate : ℕ → Bool
is_high_surrogate unit = within 0xd800 0xdbff unit

abbrev pub is_low_surrogate : ℕ → Bool
is_low_surrogate unit = within 0xdc00 0xdfff unit

-- `"`, `\`, `/`, `b`, `f`, `n`, `r`, `t`
abbrev pub is_short_escape : ℕ → Bool
is_short_escape byte =
    byte == 34 || byte == 92 || byte == 47 || byte == 98 || byte == 102 || byte == 110 || byte == 114 || byte == 116

-- the first byte of a character that isn't ASCII
abbrev pub leads : ℕ → Option Lexeme
leads byte =
    if nat_lt byte 0xc2 then None else if nat_lt byte 0xe0 then Some (tail any 0) else if byte == 0xe0 then Some (tail from_a0 1)
    else if byte == 0xed then Some (tail to_9f 1) else if nat_lt byte 0xf0 then Some (tail any 1)
    else if byte == 0xf0 then Some (tail from_90 2) else if nat_lt byte 0xf4 then Some (tail any 2)
    else if byte == 0xf4 then Some (tail to_8f 2) else None

abbrev pub next_in_string : ℕ → Option Lexeme
next_in_string byte =
    if byte == 34 then Some closed else if byte == 92 then Some escape else if nat_lt byte 0x20 then None
    else if nat_lt byte 0x80 then Some (plain false) else leads byte

abbrev pub after_tail : ℕ → Lexeme
after_tail zero = plain false
after_tail (suc more) = tail any more

abbrev pub after_digit : ℕ → ℕ → Lexeme
after_digit zero unit = plain (is_high_surrogate unit)
after_digit (suc more) unit = digits more unit

abbrev pub exponent_from : ℕ → Option Lexeme
exponent_from byte = if byte == 101 || byte == 69 then Some exponent else None

abbrev pub fraction_from : ℕ → Option Lexeme
fraction_from byte = if byte == 46 then Some point else exponent_from byte

abbrev pub digit_then : Lexeme → ℕ → Option Lexeme
digit_then word byte = if is_digit byte then Some word else None

abbrev pub next_letter : Kind → ℕ → List ℕ → ℕ → Option Lexeme
next_letter kind read [] byte = None
next_letter kind read (letter ∷ others) byte = if byte == letter then Some (letters kind (read + 1)) else None

abbrev pub ends_after_letters : Kind → List ℕ → Option Kind
ends_after_letters kind [] = Some kind
ends_after_letters kind (letter ∷ others) = None

-- what has been read once `byte` has come, or None where it can't come
unfoldable pub next : Lexeme → ℕ → Option Lexeme
next minus byte = if byte == 48 then Some leading_zero else digit_then integer byte
next leading_zero byte = fraction_from byte
next integer byte = if is_digit byte then Some integer else fraction_from byte
next point byte = digit_then decimals byte
next decimals byte = if is_digit byte then Some decimals else exponent_from byte
next exponent byte = if byte == 43 || byte == 45 then Some exponent_sign else digit_then exponent_digits byte
next exponent_sign byte = digit_then exponent_digits byte
next exponent_digits byte = digit_then exponent_digits byte
next (letters kind read) byte = next_letter kind read (drop read (literal kind)) byte
next (plain high) byte = next_in_string byte
next (tail second more) byte = if within (least second) (greatest second) byte then Some (after_tail more) else None
next escape byte = if byte == 117 then Some (digits 3 0) else if is_short_escape byte then Some (plain false) else None
next (digits more unit) byte = if is_hex_digit byte then Some (after_digit more ((16 * unit + hex_value byte) % 65536)) else None
next closed byte = None

-- what the first byte of a word begins
unfoldable pub begins : ℕ → Option Lexeme
begins byte =
    if byte == 34 then Some (plain false) else if byte == 45 then Some minus else if byte == 48 then Some leading_zero
    else if is_digit byte then Some integer else if byte == 116 then Some (letters (kinds.Flag true) 1)
    else if byte == 102 then Some (letters (kinds.Flag false) 1)
    else if byte == 110 then Some (letters kinds.Null 1) else None

-- what a word means that may end here
unfoldable pub ends : Lexeme → Option Kind
ends minus = None
ends leading_zero = Some kinds.Number
ends integer = Some kinds.Number
ends point = None
ends decimals = Some kinds.Number
ends exponent = None
ends exponent_sign = None
ends exponent_digits = Some kinds.Number
ends (letters kind read) = ends_after_letters kind (drop read (literal kind))
ends (plain high) = None
ends (tail second more) = None
ends escape = None
ends (digits more unit) = None
ends closed = Some kinds.Text

-- Of the bytes s that stand at place i, those up to place j, where t stands, go on from `word` to its end.
pub data Spells : Lexeme → ℕ → List ℕ → ℕ → List ℕ → Kind → Type 0 where
  done : {word : Lexeme} {kind : Kind} {i : ℕ} {s : List ℕ} → ends word ≡ Some kind → Spells word i s i s kind
  more : {word after : Lexeme} {kind : Kind} {byte i j : ℕ} {s t : List ℕ} → next word byte ≡ Some after → Spells after (suc i) s j t kind → Spells word i (byte ∷ s) j t kind
