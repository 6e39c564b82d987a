-- The words of JSON as RFC 8259 gives them by its productions: numbers (section 6), strings (section 7) and the three
-- literals (section 3), each as its bytes in UTF-8.
use Rattle.std.specs.Prelude.{◌≡◌, ◌⊎◌, ℕ, ◌+◌, ◌-◌, ◌*◌, ◌≤◌, ◌&&◌, ◌||◌, true, false, if◌then◌else◌, List, [], ◌∷◌, ◌++◌, encode_utf8}
use Rattle.std.specs.List.{flat_map, AllByRecursion}
use Rattle.json_lexemes.specs.declared.kind.Kind.{Kind}
use Rattle.json_lexemes.specs.declared.kind.Kind.TheVariants as kinds
use Rattle.json_lexemes.specs.Lexeme.{hex_value, is_high_surrogate, is_low_surrogate}
use Rattle.json_lexemes.specs.Unescape.{short_value}

-- ---- what productions are made of (RFC 5234)

-- the one, and then the other
abbrev pub Then : (List ℕ → Type 0) → (List ℕ → Type 0) → List ℕ → Type 0
Then One Other bytes = (front : List ℕ) × (back : List ℕ) × (bytes ≡ front ++ back) × One front × Other back

-- what may be left out
abbrev pub Optional : (List ℕ → Type 0) → List ℕ → Type 0
Optional One bytes = (bytes ≡ []) ⊎ One bytes

abbrev pub IsWithin : ℕ → ℕ → ℕ → Type 0
IsWithin low high byte = (low ≤ byte) × (byte ≤ high)

-- DIGIT
abbrev pub IsDigit : ℕ → Type 0
IsDigit byte = IsWithin 0x30 0x39 byte

-- HEXDIG, in either case
abbrev pub IsHexDigit : ℕ → Type 0
IsHexDigit byte = IsDigit byte ⊎ (IsWithin 0x41 0x46 byte ⊎ IsWithin 0x61 0x66 byte)

-- *DIGIT
abbrev pub AreDigits : List ℕ → Type 0
AreDigits bytes = AllByRecursion IsDigit bytes

-- 1*DIGIT
abbrev pub AreSomeDigits : List ℕ → Type 0
AreSomeDigits [] = ⊥
AreSomeDigits (digit ∷ digits) = IsDigit digit × AreDigits digits

-- ---- numbers

-- minus = %x2D
abbrev pub IsMinus : List ℕ → Type 0
IsMinus bytes = bytes ≡ 0x2d ∷ []

-- plus = %x2B
abbrev pub IsPlus : List ℕ → Type 0
IsPlus bytes = bytes ≡ 0x2b ∷ []

-- int = zero / ( digit1-9 *DIGIT )
abbrev pub IsInt : List ℕ → Type 0
IsInt [] = ⊥
IsInt (first ∷ digits) = ((first ≡ 0x30) × (digits ≡ [])) ⊎ (IsWithin 0x31 0x39 first × AreDigits digits)

-- frac = decimal-point 1*DIGIT
abbrev pub IsFrac : List ℕ → Type 0
IsFrac [] = ⊥
IsFrac (point ∷ digits) = (point ≡ 0x2e) × AreSomeDigits digits

-- exp = e [ minus / plus ] 1*DIGIT, and e = %x65 / %x45
abbrev pub IsExp : List ℕ → Type 0
IsExp [] = ⊥
IsExp (e ∷ others) = ((e ≡ 0x65) ⊎ (e ≡ 0x45)) × Then (Optional (λ sign. IsMinus sign ⊎ IsPlus sign)) AreSomeDigits others

-- number = [ minus ] int [ frac ] [ exp ]
abbrev pub IsNumber : List ℕ → Type 0
IsNumber bytes = Then (Optional IsMinus) (Then IsInt (Then (Optional IsFrac) (Optional IsExp))) bytes

-- ---- strings

-- one `char` of a string: unescaped, of this number; by the letter of its short escape; or by the four digits of `\uXXXX`
pub data Char : Type 0 where
  unescaped : ℕ → Char
  short : ℕ → Char
  numbered : ℕ → ℕ → ℕ → ℕ → Char

-- char = unescaped / escape ( %x22 / %x5C / %x2F / %x62 / %x66 / %x6E / %x72 / %x74 / %x75 4HEXDIG ), and
-- unescaped = %x20-21 / %x23-5B / %x5D-10FFFF, of which UTF-8 has all but the surrogates (RFC 3629, section 3)
abbrev pub IsChar : Char → Type 0
IsChar (unescaped c) = IsWithin 0x20 0x21 c ⊎ (IsWithin 0x23 0x5b c ⊎ (IsWithin 0x5d 0xd7ff c ⊎ IsWithin 0xe000 0x10ffff c))
IsChar (short letter) = (letter ≡ 0x22) ⊎ ((letter ≡ 0x5c) ⊎ ((letter ≡ 0x2f) ⊎ ((letter ≡ 0x62) ⊎ ((letter ≡ 0x66) ⊎ ((letter ≡ 0x6e) ⊎ ((letter ≡ 0x72) ⊎ (letter ≡ 0x74)))))))
IsChar (numbered a b c d) = IsHexDigit a × IsHexDigit b × IsHexDigit c × IsHexDigit d

-- its bytes
abbrev pub bytes_of : Char → List ℕ
bytes_of (unescaped c) = encode_utf8 c
bytes_of (short letter) = 0x5c ∷ letter ∷ []
bytes_of (numbered a b c d) = 0x5c ∷ 0x75 ∷ a ∷ b ∷ c ∷ d ∷ []

abbrev pub inside_of : List Char → List ℕ
inside_of chars = flat_map bytes_of chars

-- string = quotation-mark *char quotation-mark
abbrev pub IsString : List ℕ → Type 0
IsString bytes = (chars : List Char) × AllByRecursion IsChar chars × (bytes ≡ 0x22 ∷ (inside_of chars ++ 0x22 ∷ []))

-- ---- the text of a string

-- the number of four hexadecimal digits
abbrev pub number_of : ℕ → ℕ → ℕ → ℕ → ℕ
number_of a b c d = 4096 * hex_value a + 256 * hex_value b + 16 * hex_value c + hex_value d

-- the character that a high and a low surrogate make together
abbrev pub paired : ℕ → ℕ → ℕ
paired high low = 0x10000 + (high - 0xd800) * 1024 + (low - 0xdc00)

-- the character of a number, if it isn't a surrogate
abbrev pub alone : ℕ → List ℕ
alone c = if is_high_surrogate c || is_low_surrogate c then [] else encode_utf8 c

-- A high and a low surrogate, one right after the other, make one character; any other surrogate makes none.
abbrev pub text_of : List Char → List ℕ
text_of [] = []
text_of (unescaped c ∷ chars) = encode_utf8 c ++ text_of chars
text_of (short letter ∷ chars) = short_value letter ∷ text_of chars
text_of (numbered a b c d ∷ []) = alone (number_of a b c d)
text_of (numbered a b c d ∷ unescaped e ∷ chars) = alone (number_of a b c d) ++ text_of (unescaped e ∷ chars)
text_of (numbered a b c d ∷ short letter ∷ chars) = alone (number_of a b c d) ++ text_of (short letter ∷ chars)
text_of (numbered a b c d ∷ numbered e f g h ∷ chars) =
    if is_high_surrogate (number_of a b c d) && is_low_surrogate (number_of e f g h) then encode_utf8 (paired (number_of a b c d) (number_of e f g h)) ++ text_of chars
    else alone (number_of a b c d) ++ text_of (numbered e f g h ∷ chars)

-- ---- all words

-- the bytes are a word of this kind
abbrev pub IsWord : Kind → List ℕ → Type 0
IsWord kinds.Null bytes = bytes ≡ 0x6e ∷ 0x75 ∷ 0x6c ∷ 0x6c ∷ []
IsWord (kinds.Flag true) bytes = bytes ≡ 0x74 ∷ 0x72 ∷ 0x75 ∷ 0x65 ∷ []
IsWord (kinds.Flag false) bytes = bytes ≡ 0x66 ∷ 0x61 ∷ 0x6c ∷ 0x73 ∷ 0x65 ∷ []
IsWord kinds.Number bytes = IsNumber bytes
IsWord kinds.Text bytes = IsString bytes
IsWord kinds.List bytes = ⊥
IsWord kinds.Map bytes = ⊥
