-- Whole numbers.
use Rattle.std.specs.Prelude.{ℕ, ◌^◌, Bool, true, false, ◌&&◌, not, ◌==◌, nat_lt, nat_le, if◌then◌else◌, List, [], ◌∷◌, Option, Some, None}
use Rattle.std.specs.List.{list_all}
use Rattle.std.specs.Char.{is_ascii_digit}
use Rattle.std.specs.Str.Parse.{digits_value_after}
use Rattle.rule_value.specs.declared.part.Whole.{Whole}

-- the number of this sign and size
abbrev pub whole : Bool → ℕ → Whole
whole below size = record { below = below && not (size == 0); size = size }

-- it is within 64 bits signed
abbrev pub is_within : Bool → ℕ → Bool
is_within below size = if below then nat_le size (2 ^ 63) else nat_lt size (2 ^ 63)

abbrev pub if_within : Bool → ℕ → Option Whole
if_within below size = if is_within below size then Some (whole below size) else None

abbrev pub is_less : Whole → Whole → Bool
is_less one other =
    if one.below then (if other.below then nat_lt other.size one.size else true)
    else (if other.below then false else nat_lt one.size other.size)

-- the number that digits spell behind those that spell n; none where something else stands among them
abbrev pub digits_after : Bool → ℕ → List ℕ → Option Whole
digits_after below n digits = if list_all is_ascii_digit digits then if_within below (digits_value_after 10 n digits) else None

-- the number that one digit or more spell
abbrev pub of_digits : Bool → List ℕ → Option Whole
of_digits below [] = None
of_digits below (digit ∷ digits) = digits_after below 0 (digit ∷ digits)

-- the number that a text spells: `-` or nothing, and digits; none outside of 64 bits
unfoldable pub whole_of : List ℕ → Option Whole
whole_of [] = None
whole_of (byte ∷ bytes) = if byte == 45 then of_digits true bytes else of_digits false (byte ∷ bytes)
