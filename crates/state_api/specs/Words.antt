-- The words of state requests: keys, ETags, modes, times to live.
use Rattle.std.specs.Prelude.{ℕ, ◌-◌, Bool, false, ◌&&◌, ◌||◌, not, ◌==◌, nat_le, List, [], ◌∷◌, ◌++◌, length, take, drop, codes, bytes_eq, Option, Some, None, Result, Ok, Err, if◌then◌else◌}
use Rattle.std.specs.List.{list_all}
use Rattle.std.specs.Char.{is_ascii_digit}
use Rattle.std.specs.Str.Parse.{digits_value}
use Rattle.state_core.specs.declared.command.Prefix.{Prefix}
use Rattle.state_core.specs.declared.command.Mode.{Mode}
use Rattle.state_core.specs.declared.command.Mode.TheVariants.{Unsaid, FirstWrite, LastWrite}
use Rattle.state_api.specs.declared.what.What.{What}
use Rattle.state_api.specs.declared.what.What.TheVariants.{Key, Concurrency, Ttl}

-- ---- keys

-- what stands before a request's key in the stored one
abbrev pub front_in : Option (List ℕ) → List ℕ
front_in None = []
front_in (Some text) = text ++ codes "||"

abbrev pub front_of : Prefix → List ℕ
front_of prefix = front_in prefix.text

abbrev pub begins_with_bar : List ℕ → Bool
begins_with_bar [] = false
begins_with_bar (first ∷ rest) = first == 124

-- two vertical bars stand in a row
abbrev pub has_bars : List ℕ → Bool
has_bars [] = false
has_bars (first ∷ rest) = (first == 124 && begins_with_bar rest) || has_bars rest

-- a key has 1 to 1,024 bytes, and no two bars in a row
abbrev pub is_key : List ℕ → Bool
is_key key = nat_le 1 (length key) && nat_le (length key) 1024 && not (has_bars key)

abbrev pub stored_key : Prefix → List ℕ → Result (List ℕ) What
stored_key prefix key = if is_key key then Ok (front_of prefix ++ key) else Err Key

-- ---- ETags

-- two quotes stand round the text
abbrev pub is_quoted : List ℕ → Bool
is_quoted [] = false
is_quoted (first ∷ rest) = first == 34 && nat_le 1 (length rest) && bytes_eq (drop (length rest - 1) rest) (34 ∷ [])

-- without one pair of quotes round it
abbrev pub unquoted : List ℕ → List ℕ
unquoted text = if is_quoted text then take (length text - 2) (drop 1 text) else text

-- an empty one is as none
abbrev pub etag_of : Option (List ℕ) → Option (List ℕ)
etag_of None = None
etag_of (Some []) = None
etag_of (Some (byte ∷ bytes)) = Some (unquoted (byte ∷ bytes))

-- ---- modes

abbrev pub is_unsaid : List ℕ → Bool
is_unsaid word = bytes_eq word [] || bytes_eq word (codes "unspecified")

abbrev pub mode_in : List ℕ → Result Mode What
mode_in word =
    if bytes_eq word (codes "first-write") then Ok FirstWrite else if bytes_eq word (codes "last-write") then Ok LastWrite
    else if is_unsaid word then Ok Unsaid else Err Concurrency

abbrev pub mode_of : Option (List ℕ) → Result Mode What
mode_of None = Ok Unsaid
mode_of (Some word) = mode_in word

-- ---- times to live

abbrev pub starts_with_zero : List ℕ → Bool
starts_with_zero [] = false
starts_with_zero (digit ∷ digits) = digit == 48

-- 1 to 10 decimal digits without a leading zero
abbrev pub is_number : List ℕ → Bool
is_number text = list_all is_ascii_digit text && (nat_le 1 (length text) && (nat_le (length text) 10 && not (starts_with_zero text)))

-- a number of seconds from 1 to 4,294,967,295
abbrev pub is_seconds : List ℕ → Bool
is_seconds text = is_number text && (nat_le 1 (digits_value 10 text) && nat_le (digits_value 10 text) 4294967295)

-- -1 is for ever
abbrev pub ttl_in : List ℕ → Result (Option ℕ) What
ttl_in text = if bytes_eq text (codes "-1") then Ok None else if is_seconds text then Ok (Some (digits_value 10 text)) else Err Ttl

abbrev pub ttl_of : Option (List ℕ) → Result (Option ℕ) What
ttl_of None = Ok None
ttl_of (Some text) = ttl_in text
