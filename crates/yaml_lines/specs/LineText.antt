-- What stands in a line that has content.
use Rattle.std.specs.Prelude.{ℕ, ◌+◌, ◌-◌, Bool, true, false, ◌&&◌, ◌||◌, not, ◌==◌, if◌then◌else◌, List, [], ◌∷◌, length, drop, take, Option, Some, None}
use Rattle.yaml_lines.specs.Blank.{spaces_of, whites_of, begins_with, is_tail}
use Rattle.yaml_lines.specs.Plain.{trimmed, ends_name, colon_place, begins_plain, is_left_out}
use Rattle.yaml_lines.specs.Quoted.{quoted_len, text_within}
use Rattle.yaml_lines.specs.ValueText.{value_text, opens_block}
use Rattle.yaml_lines.specs.Block.{block_below}
use Rattle.yaml_lines.specs.LineParts.{Spelled, good, left_out, wrong, Name, Value, Parts, dashed, member, alone, Line}

abbrev pub first_byte : List ℕ → ℕ
first_byte [] = 0
first_byte (byte ∷ bytes) = byte

-- a name, and how many bytes there are up to its colon and with it
pub record NameAt : Type 0 where
  pub text : Spelled (List ℕ)
  pub behind : ℕ

abbrev pub quoted_name : Option (List ℕ) → Spelled (List ℕ)
quoted_name None = wrong false
quoted_name (Some text) = good text

-- behind the closing quote stand spaces and the colon, and a space or the end
abbrev pub ends_here : ℕ → List ℕ → Bool
ends_here byte [] = false
ends_here byte (first ∷ others) = first == byte && ends_name others

abbrev pub colon_behind : List ℕ → Bool
colon_behind bytes = ends_here 58 (drop (spaces_of bytes) bytes)

abbrev pub quoted_name_at : Bool → List ℕ → Option ℕ → Option NameAt
quoted_name_at is_double bytes None = None
quoted_name_at is_double bytes (Some count) =
    if colon_behind (drop count bytes) then Some (record { text = quoted_name (text_within is_double (take (count - 1) bytes)); behind = 1 + count + spaces_of (drop count bytes) + 1 })
    else None

abbrev pub plain_name : List ℕ → List ℕ → Spelled (List ℕ)
plain_name bytes text = if is_left_out bytes then left_out (first_byte bytes) else if begins_plain text then good text else wrong false

abbrev pub plain_name_at : List ℕ → Option ℕ → Option NameAt
plain_name_at bytes None = None
plain_name_at bytes (Some place) = Some (record { text = plain_name bytes (trimmed (take place bytes)); behind = place + 1 })

-- brackets, braces and literal blocks begin no name
abbrev pub name_by : ℕ → List ℕ → Option NameAt
name_by byte bytes =
    if byte == 34 then quoted_name_at true bytes (quoted_len true false bytes)
    else if byte == 39 then quoted_name_at false bytes (quoted_len false false bytes)
    else if byte == 91 || byte == 123 || byte == 124 then None
    else plain_name_at (byte ∷ bytes) (colon_place false (byte ∷ bytes))

-- the name with which the bytes begin
unfoldable pub name_at : List ℕ → Option NameAt
name_at [] = None
name_at (byte ∷ bytes) = name_by byte bytes

-- a value, and the indent that the lines of a literal block below it have at least, where it begins one
pub record Held : Type 0 where
  pub value : Option Value
  pub block : Option ℕ

abbrev pub block_from : Bool → ℕ → Option ℕ
block_from opens least = if opens then Some least else None

-- a value that begins in this column
abbrev pub value_at : ℕ → ℕ → List ℕ → List (List ℕ) → Value
value_at column least bytes lines = record { column = column; first = first_byte bytes; leaf = value_text bytes least lines }

-- what stands behind a colon
unfoldable pub value_behind : ℕ → ℕ → List ℕ → List (List ℕ) → Held
value_behind column least bytes lines =
    if is_tail bytes then record { value = None; block = None }
    else record { value = Some (value_at (column + whites_of bytes) least (drop (whites_of bytes) bytes) lines); block = block_from (opens_block (drop (whites_of bytes) bytes)) least }

-- the parts of a line, whether a tab stands in the indent of the mapping that begins behind its dash, and its literal block
pub record Cut : Type 0 where
  pub tab : Bool
  pub parts : Parts
  pub block : Option ℕ

abbrev pub named_at : ℕ → List ℕ → NameAt → Name
named_at column bytes name = record { column = column; first = first_byte bytes; text = name.text }

abbrev pub item_named : Bool → ℕ → ℕ → List ℕ → List (List ℕ) → Option NameAt → Cut
item_named tab dash column bytes lines None = record { tab = false; parts = dashed dash None (Some (value_at column dash bytes lines)); block = block_from (opens_block bytes) dash }
item_named tab dash column bytes lines (Some name) = record { tab = tab; parts = dashed dash (Some (named_at column bytes name)) (value_behind (column + name.behind) column (drop name.behind bytes) lines).value; block = (value_behind (column + name.behind) column (drop name.behind bytes) lines).block }

-- what stands behind a dash
unfoldable pub item_cut : ℕ → List ℕ → List (List ℕ) → Cut
item_cut dash bytes lines =
    if is_tail bytes then record { tab = false; parts = dashed dash None None; block = None }
    else item_named (not (whites_of bytes == spaces_of bytes)) dash (dash + 1 + whites_of bytes) (drop (whites_of bytes) bytes) lines (name_at (drop (whites_of bytes) bytes))

abbrev pub line_named : ℕ → ℕ → List ℕ → List (List ℕ) → Option NameAt → Cut
line_named column least bytes lines None = record { tab = false; parts = alone (value_at column least bytes lines); block = block_from (opens_block bytes) least }
line_named column least bytes lines (Some name) = record { tab = false; parts = member (named_at column bytes name) (value_behind (column + name.behind) column (drop name.behind bytes) lines).value; block = (value_behind (column + name.behind) column (drop name.behind bytes) lines).block }

-- a dash that a space or the end follows
abbrev pub is_item : List ℕ → Bool
is_item bytes = ends_here 45 bytes

-- content that begins in this column; the lines of a literal block that is the whole of it have so many spaces at least
unfoldable pub cut : ℕ → ℕ → List ℕ → List (List ℕ) → Cut
cut column least bytes lines = if is_item bytes then item_cut column (drop 1 bytes) lines else line_named column least bytes lines (name_at bytes)

-- the column of the part that a value on the next lines would stand in
abbrev pub holder_column : ℕ → Parts → ℕ
holder_column least (dashed column None v) = column
holder_column least (dashed column (Some name) v) = name.column
holder_column least (member name v) = name.column
holder_column least (alone v) = least

-- how many lines below belong to the literal block
abbrev pub lines_below : List (List ℕ) → Option ℕ → ℕ
lines_below lines None = 0
lines_below lines (Some least) = length (block_below least lines)

abbrev pub cut_line : ℕ → List ℕ → List (List ℕ) → Cut
cut_line least raw lines = cut (spaces_of raw + 1) least (drop (spaces_of raw) raw) lines

abbrev pub line_with : ℕ → Bool → List ℕ → Cut → Line
line_with number starts raw c = record { number = number; starts = starts; tab = begins_with 9 (drop (spaces_of raw) raw) || c.tab; parts = c.parts }
