-- What the sections of a case say.
use Rattle.std.specs.Prelude.{◌≡◌, ◌⊎◌, ◌^◌, ℕ, zero, suc, nat_lt, bytes_eq, codes, decimal, if◌then◌else◌, List, [], ◌∷◌, ◌++◌, Option, Some, None, option_map, unwrap_or, find}
use Rattle.std.specs.List.{flat_map}
use Rattle.std.specs.Str.Parse.{digits_value}
use Rattle.side_base.specs.Decimal.{digits_at}
use Rattle.case_text.specs.Reading.{undone}
use Rattle.case_text.specs.Lines.{line}
use Rattle.case_text.specs.Piece.{without_blank}
use Rattle.case_text.specs.declared.escape.Place.TheVariants.{Outside}
use Rattle.case_text.specs.declared.section.Section.{Section}

-- the name in the first section of this word
abbrev pub name_of : List ℕ → List Section → Option (List ℕ)
name_of word sections = option_map (λ (section : Section). section.name.now) (find (λ (section : Section). bytes_eq section.word.now word) sections)

-- the number of the decimal digits that a text begins with; 0 where it has none, or where it is 2^32 or more
abbrev pub small : ℕ → ℕ
small number = if nat_lt number (2 ^ 32) then number else 0

abbrev pub number_at : List ℕ → ℕ
number_at text = small (digits_value 10 (digits_at text))

-- what bytes say; `no escape` where they say nothing
abbrev pub said_in : List ℕ → List ℕ
said_in bytes = unwrap_or (undone Outside bytes) (codes "no escape")

-- what the text of a section says, without the empty lines at its end
abbrev pub said_of : Section → List ℕ
said_of section = said_in (without_blank section.text.now)

-- how often it stands where sections are joined: the number in the section's name, or once
abbrev pub times_of : List ℕ → ℕ
times_of [] = 1
times_of (byte ∷ name) = number_at (byte ∷ name)

unfoldable pub repeated : ℕ → List ℕ → List ℕ
repeated zero text = []
repeated (suc times) text = text ++ repeated times text

-- a text so many times, each time with its number behind it and a line end, from this number on
unfoldable pub numbered : ℕ → ℕ → List ℕ → List ℕ
numbered number zero text = []
numbered number (suc times) text = line text (decimal number) ++ numbered (suc number) times text

-- what the sections of a word say, one behind the other
unfoldable pub joined_of : List ℕ → List Section → List ℕ
joined_of word [] = []
joined_of word (section ∷ sections) =
    (if bytes_eq section.word.now word then repeated (times_of section.name.now) (said_of section) else []) ++ joined_of word sections

-- what is told of a section of which this is said: a line where it has a backslash that begins no escape
abbrev pub told : List ℕ → Option (List ℕ) → List ℕ
told word None = line (codes "a broken escape in section ") word
told word (Some bytes) = []

abbrev pub broken_line : Section → List ℕ
broken_line section = told section.word.now (undone Outside (without_blank section.text.now))

abbrev pub broken_lines : List Section → List ℕ
broken_lines sections = flat_map broken_line sections

-- these bytes, or nothing, where memory lacks
abbrev pub IsOrLacks : List ℕ → List ℕ → Type 0
IsOrLacks bytes said = (said ≡ bytes) ⊎ (said ≡ [])
