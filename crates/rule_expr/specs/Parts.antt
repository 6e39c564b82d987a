-- The parts of a rule's text: each is the longest that stands at its place, and blanks may stand between them.
use Rattle.std.specs.Prelude.{ℕ, ◌+◌, Bool, true, false, ◌&&◌, ◌||◌, ◌==◌, if◌then◌else◌, List, [], ◌∷◌, length, take, drop, slice_index, codes, Result, Ok, Err}
use Rattle.std.specs.List.{prefix_len}
use Rattle.std.specs.Str.{bytes_eq}
use Rattle.std.specs.Char.{is_ascii_digit, is_ascii_alphabetic}
use Rattle.std.specs.Str.Parse.{digits_value}
use Rattle.side_base.specs.Decimal.{digits_at}
use Rattle.rule_value.specs.declared.part.Part.{Part}
use Rattle.rule_value.specs.declared.part.Part.TheVariants as parts
use Rattle.rule_value.specs.declared.part.Word.{Word}
use Rattle.rule_value.specs.declared.part.Word.TheVariants as words
use Rattle.rule_value.specs.declared.part.Call.TheVariants as calls
use Rattle.rule_value.specs.declared.part.Relation.TheVariants as relations
use Rattle.rule_value.specs.declared.part.Seen.{Seen}
use Rattle.rule_value.specs.Wholes.{whole, is_within}

-- spaces, tabs and line ends
abbrev pub is_blank : ℕ → Bool
is_blank byte = byte == 32 || byte == 9 || byte == 10 || byte == 13

-- `+`, `*`, `/`, `%`, `?` and `-`
abbrev pub is_left_out : ℕ → Bool
is_left_out byte = byte == 43 || byte == 42 || byte == 47 || byte == 37 || byte == 63 || byte == 45

-- the text without the blanks at its beginning
unfoldable pub after_blanks : List ℕ → List ℕ
after_blanks text = drop (prefix_len is_blank text) text

-- letters, `_` and digits
abbrev pub is_name_byte : ℕ → Bool
is_name_byte byte = is_ascii_alphabetic byte || byte == 95 || is_ascii_digit byte

abbrev pub name_len : List ℕ → ℕ
name_len text = prefix_len is_name_byte text

-- what a name means, where it isn't the name of a member
abbrev pub keyword : List ℕ → Word
keyword name =
    if bytes_eq name (codes "event") then words.Event
    else if bytes_eq name (codes "true") then words.True
    else if bytes_eq name (codes "false") then words.False
    else if bytes_eq name (codes "null") then words.Null
    else if bytes_eq name (codes "has") then words.Has
    else if bytes_eq name (codes "int") then words.Int
    else if bytes_eq name (codes "in") then words.In
    else if bytes_eq name (codes "startsWith") then words.Call calls.StartsWith
    else if bytes_eq name (codes "endsWith") then words.Call calls.EndsWith
    else if bytes_eq name (codes "contains") then words.Call calls.Contains
    else words.Other

-- what stands at a place, and how many bytes of it; of a text the quote alone
abbrev pub seen_as : Part → ℕ → Seen
seen_as part len = record { part = part; len = len }

abbrev pub one : Part → Seen
one part = seen_as part 1

abbrev pub two : Part → Seen
two part = seen_as part 2

-- digits, before which a sign of so many bytes stands; a `-` alone is no part
abbrev pub number_of_digits : Bool → ℕ → List ℕ → Seen
number_of_digits below sign [] = seen_as (parts.Stray 45) sign
number_of_digits below sign (digit ∷ digits) =
    if is_within below (digits_value 10 (digit ∷ digits))
    then seen_as (parts.Number (whole below (digits_value 10 (digit ∷ digits)))) (length (digit ∷ digits) + sign)
    else seen_as parts.Huge (length (digit ∷ digits) + sign)

abbrev pub number_seen : Bool → ℕ → List ℕ → Seen
number_seen below sign text = number_of_digits below sign (digits_at text)

-- a part of one or two bytes
unfoldable pub mark_seen : ℕ → ℕ → Seen
mark_seen byte next =
    if byte == 40 then one parts.Open
    else if byte == 41 then one parts.Close
    else if byte == 91 then one parts.OpenList
    else if byte == 93 then one parts.CloseList
    else if byte == 44 then one parts.Comma
    else if byte == 46 then one parts.Dot
    else if byte == 34 || byte == 39 then one parts.Quote
    else if byte == 38 && next == byte then two parts.Both
    else if byte == 124 && next == byte then two parts.Either
    else if byte == 61 && next == 61 then two (parts.Test relations.Equal)
    else if byte == 33 && next == 61 then two (parts.Test relations.Unlike)
    else if byte == 60 && next == 61 then two (parts.Test relations.AtMost)
    else if byte == 62 && next == 61 then two (parts.Test relations.AtLeast)
    else if byte == 33 then one parts.Bang
    else if byte == 60 then one (parts.Test relations.Below)
    else if byte == 62 then one (parts.Test relations.Above)
    else one (parts.Stray byte)

-- a name
abbrev pub name_seen : List ℕ → Seen
name_seen text = seen_as (parts.Named (keyword (take (name_len text) text))) (name_len text)

-- what stands at the beginning of a text that begins with this byte, and goes on with those
abbrev pub seen_from : ℕ → List ℕ → Seen
seen_from byte bytes =
    if is_ascii_alphabetic byte || byte == 95 then name_seen (byte ∷ bytes)
    else if byte == 45 then number_seen true 1 bytes
    else if is_ascii_digit byte then number_seen false 0 (byte ∷ bytes)
    else mark_seen byte (slice_index bytes 0)

-- what stands at the beginning of a text
unfoldable pub seen : List ℕ → Seen
seen [] = seen_as parts.End 0
seen (byte ∷ bytes) = seen_from byte bytes

-- what follows it, and the blanks behind it
unfoldable pub behind : List ℕ → List ℕ
behind text = after_blanks (drop (seen text).len text)

-- the bytes that may follow a backslash in a text: a backslash and both quotes
abbrev pub is_escaped : ℕ → Bool
is_escaped byte = byte == 92 || byte == 34 || byte == 39

-- one more byte at the beginning of what a text holds
abbrev pub led_by : ℕ → Result (List ℕ × List ℕ) (List ℕ) → Result (List ℕ × List ℕ) (List ℕ)
led_by byte (Ok text) = Ok (byte ∷ text.0, text.1)
led_by byte (Err place) = Err place

-- What a text in these quotes holds, and what follows it; or what stands from the place on where it breaks off: the end, or
-- the byte behind a backslash that none may follow. `escaped` is whether a backslash stood before.
abbrev pub quoted_from : ℕ → Bool → List ℕ → Result (List ℕ × List ℕ) (List ℕ)
quoted_from quote escaped [] = Err []
quoted_from quote true (byte ∷ bytes) = if is_escaped byte then led_by byte (quoted_from quote false bytes) else Err (byte ∷ bytes)
quoted_from quote false (byte ∷ bytes) =
    if byte == quote then Ok ([], bytes)
    else if byte == 92 then quoted_from quote true bytes
    else led_by byte (quoted_from quote false bytes)

-- the same of a text that begins with its quote
unfoldable pub quoted : List ℕ → Result (List ℕ × List ℕ) (List ℕ)
quoted [] = Err []
quoted (quote ∷ bytes) = quoted_from quote false bytes

abbrev pub part_at : List ℕ → Part
part_at text = (seen text).part

abbrev pub name_at : List ℕ → List ℕ
name_at text = take (seen text).len text
