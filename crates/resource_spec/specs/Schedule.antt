-- How often a cron component ticks: its schedule is `@every ` and a duration of a second to 8,760 hours.
use Rattle.std.specs.Prelude.{◌≡◌, ℕ, zero, suc, ◌+◌, ◌*◌, ◌≤◌, ◌&&◌, nat_le, nat_eq, if◌then◌else◌, List, [], ◌∷◌, ◌++◌, length, drop, codes, Option, Some, None, option_map}
use Rattle.std.specs.List.{starts_with}
use Rattle.std.specs.Str.Parse.{digits_value}
use Rattle.side_base.specs.Limits.{greatest_duration}
use Rattle.side_base.specs.Decimal.{digits_at, after_digits}
use Rattle.side_base.specs.Duration.{TimeUnit, unit_at, IsDuration}

-- the text says this period, in milliseconds
pub record SaysPeriod (text : List ℕ) (ms : ℕ) : Type 0 where
  pub behind : List ℕ
  pub text_is : text ≡ codes "@every " ++ behind
  pub duration : IsDuration behind ms
  pub low : 1000 ≤ ms
  pub high : ms ≤ greatest_duration

-- a part of a duration with these digits and this unit, and the milliseconds of those behind it
abbrev pub one_part : List ℕ → Option TimeUnit → (TimeUnit → Option ℕ) → Option ℕ
one_part [] unit others = None
one_part (digit ∷ digits) None others = None
one_part (digit ∷ digits) (Some unit) others = option_map (λ ms. digits_value 10 (digit ∷ digits) * unit.ms + ms) (others unit)

-- the milliseconds of the parts that a text is, if there are no more than so many
unfoldable pub parts_in : ℕ → List ℕ → Option ℕ
parts_in zero [] = Some 0
parts_in zero (byte ∷ text) = None
parts_in (suc most) [] = Some 0
parts_in (suc most) (byte ∷ text) = one_part (digits_at (byte ∷ text)) (unit_at (after_digits (byte ∷ text))) (λ unit. parts_in most (drop (length unit.letters) (after_digits (byte ∷ text))))

-- those of a duration, which has a part at least
abbrev pub duration_in : List ℕ → Option ℕ
duration_in [] = None
duration_in (byte ∷ text) = parts_in (length (byte ∷ text)) (byte ∷ text)

abbrev pub if_within : Option ℕ → Option ℕ
if_within None = None
if_within (Some ms) = if nat_le 1000 ms && nat_le ms greatest_duration then Some ms else None

-- the period that a text says, if it says one
abbrev pub period_in : List ℕ → Option ℕ
period_in text = if starts_with nat_eq text (codes "@every ") then if_within (duration_in (drop 7 text)) else None
