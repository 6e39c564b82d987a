-- Moments as texts, and texts as moments (RFC 3339, section 5.6).
use Rattle.std.specs.Prelude.{◌≡◌, ℕ, ◌+◌, ◌-◌, ◌*◌, ◌/◌, ◌%◌, Bool, true, false, ◌&&◌, ◌||◌, ◌==◌, nat_le, nat_lt, List, [], ◌∷◌, ◌++◌, length, drop, slice_index, codes, decimal, pos, unsigned_abs, if◌then◌else◌}
use Rattle.std.specs.Char.{is_ascii_digit}
use Rattle.std.specs.Str.{IsUtf8}
use Rattle.jiff.specs.Words.{IsDate, epoch_day}
use Rattle.cloud_events.specs.declared.clock.Day.{Day}
use Rattle.side_base.specs.Decimal.{digits_at, after_digits}

-- ---- a moment as a text

-- in at least two digits
abbrev pub two : ℕ → List ℕ
two number = if nat_lt number 10 then 48 ∷ decimal number else decimal number

abbrev pub date_text : Day → List ℕ
date_text day = decimal (unsigned_abs day.date.year) ++ codes "-" ++ two day.date.month ++ codes "-" ++ two day.date.day

-- of the second of a day
abbrev pub clock_text : ℕ → List ℕ
clock_text second = codes "T" ++ two (second / 3600) ++ codes ":" ++ two (second / 60 % 60) ++ codes ":" ++ two (second % 60) ++ codes "Z"

-- the text of a moment, which is in milliseconds since the beginning of 1970: its day, and its second without the fraction
pub record IsTimeOf (now : ℕ) (text : List ℕ) : Type 0 where
  pub day : Day
  pub number : epoch_day day.date ≡ pos (now / 86400000)
  pub spelled : text ≡ date_text day ++ clock_text (now % 86400000 / 1000)
  pub utf8 : IsUtf8 text

-- ---- a text as a moment

-- two digits at a place
abbrev pub are_two : List ℕ → ℕ → Bool
are_two bytes at = is_ascii_digit (slice_index bytes at) && is_ascii_digit (slice_index bytes (at + 1))

-- their number
abbrev pub two_at : List ℕ → ℕ → ℕ
two_at bytes at = 10 * (slice_index bytes at - 48) + (slice_index bytes (at + 1) - 48)

-- two digits that make a number up to `most`
abbrev pub is_two : ℕ → List ℕ → ℕ → Bool
is_two most bytes at = are_two bytes at && nat_le (two_at bytes at) most

abbrev pub four_at : List ℕ → ℕ
four_at bytes = 100 * two_at bytes 0 + two_at bytes 2

-- `YYYY-MM-DD`
abbrev pub are_dashes : List ℕ → Bool
are_dashes bytes = slice_index bytes 4 == 45 && slice_index bytes 7 == 45

abbrev pub are_date_digits : List ℕ → Bool
are_date_digits bytes = are_two bytes 0 && (are_two bytes 2 && (are_two bytes 5 && are_two bytes 8))

abbrev pub date_form : List ℕ → Bool
date_form bytes = are_dashes bytes && are_date_digits bytes

-- `T` or `t`, and `HH:MM:SS`
abbrev pub is_mark : ℕ → Bool
is_mark byte = byte == 84 || byte == 116

abbrev pub are_colons : List ℕ → Bool
are_colons bytes = slice_index bytes 13 == 58 && slice_index bytes 16 == 58

abbrev pub are_clock_digits : List ℕ → Bool
are_clock_digits bytes = is_two 23 bytes 11 && (is_two 59 bytes 14 && is_two 59 bytes 17)

abbrev pub clock_form : List ℕ → Bool
clock_form bytes = is_mark (slice_index bytes 10) && (are_colons bytes && are_clock_digits bytes)

-- `Z`, `z`, `+HH:MM` or `-HH:MM`
abbrev pub is_zulu : ℕ → Bool
is_zulu byte = byte == 90 || byte == 122

abbrev pub is_sign : ℕ → Bool
is_sign byte = byte == 43 || byte == 45

abbrev pub is_offset : List ℕ → Bool
is_offset rest = is_sign (slice_index rest 0) && (slice_index rest 3 == 58 && (is_two 23 rest 1 && is_two 59 rest 4))

abbrev pub is_zone : List ℕ → Bool
is_zone rest = if length rest == 1 then is_zulu (slice_index rest 0) else if length rest == 6 then is_offset rest else false

-- one digit or more, and a zone
abbrev pub is_fraction : List ℕ → Bool
is_fraction rest = nat_le 1 (length (digits_at rest)) && is_zone (after_digits rest)

-- a fraction or none, and a zone
abbrev pub is_end : List ℕ → Bool
is_end [] = is_zone []
is_end (byte ∷ rest) = if byte == 46 then is_fraction rest else is_zone (byte ∷ rest)

abbrev pub has_form : List ℕ → Bool
has_form bytes = nat_le 20 (length bytes) && (date_form bytes && (clock_form bytes && is_end (drop 19 bytes)))

-- a timestamp of a day that the calendar has
abbrev pub IsTime : List ℕ → Type 0
IsTime bytes = (has_form bytes ≡ true) × IsDate (pos (four_at bytes)) (pos (two_at bytes 5)) (pos (two_at bytes 8))
