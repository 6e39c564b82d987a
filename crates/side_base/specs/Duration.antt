-- Durations as resource files write them: parts of digits and a unit, as in `1h30m`, read from the left.
use Rattle.std.specs.Prelude.{◌≡◌, ◌≢◌, ◌+◌, ◌*◌, ◌-◌, ◌^◌, ℕ, min, List, [], ◌∷◌, length, drop, find, codes, nat_eq, Option, Some, None, Result, Ok, Err}
use Rattle.std.specs.List.{starts_with}
use Rattle.std.specs.Str.Parse.{digits_value}
use Rattle.side_base.specs.declared.duration.DurationErr.{DurationErr}
use Rattle.side_base.specs.declared.duration.DurationErr.TheVariants.{Empty, BadUnit, BadDigit, TooLong}
use Rattle.side_base.specs.Decimal.{digits_at, after_digits}

-- a unit: its letters, and its length in milliseconds
pub record TimeUnit : Type 0 where
  pub letters : List ℕ
  pub ms : ℕ

-- the units in the order in which they are tried, `ms` before `m`
abbrev pub units : List TimeUnit
units =
    record { letters = codes "h"; ms = 3600000 }
    ∷ record { letters = codes "ms"; ms = 1 }
    ∷ record { letters = codes "m"; ms = 60000 }
    ∷ record { letters = codes "s"; ms = 1000 }
    ∷ []

-- the first of the units whose letters stand at the beginning of a text
unfoldable pub unit_at : List ℕ → Option TimeUnit
unit_at text = find (λ unit. starts_with nat_eq text unit.letters) units

-- a text begins with whole parts of these milliseconds in all, after which `rest` is left
pub data Parts (rest : List ℕ) : List ℕ → ℕ → Type 0 where
  none : Parts rest rest 0
  part : (text : List ℕ) (unit : TimeUnit) (ms : ℕ) → digits_at text ≢ [] → unit_at (after_digits text) ≡ Some unit
      → Parts rest (drop (length unit.letters) (after_digits text)) ms
      → Parts rest text (digits_value 10 (digits_at text) * unit.ms + ms)

-- the text is one part or more, of these milliseconds in all
abbrev pub IsDuration : List ℕ → ℕ → Type 0
IsDuration text ms = (text ≢ []) × Parts [] text ms

-- a part begins at `at`, and no digit stands there
abbrev pub LacksDigitAt : List ℕ → ℕ → Type 0
LacksDigitAt text at =
    (rest : List ℕ) × (ms : ℕ) × Parts rest text ms × (rest ≢ []) × (digits_at rest ≡ []) × (at ≡ length text - length rest)

-- the digits of a part end at `at`, and no unit stands there
abbrev pub LacksUnitAt : List ℕ → ℕ → Type 0
LacksUnitAt text at =
    (rest : List ℕ) × (ms : ℕ) × Parts rest text ms × (digits_at rest ≢ []) × (unit_at (after_digits rest) ≡ None)
    × (at ≡ length text - length (after_digits rest))

-- what `sum_of_parts` gives: the milliseconds, at most `u64`'s greatest, or where the parts stop
abbrev pub PartsResult : List ℕ → Result ℕ DurationErr → Type 0
PartsResult text (Ok total) = (ms : ℕ) × Parts [] text ms × (total ≡ min ms (2 ^ 64 - 1))
PartsResult text (Err (BadDigit at)) = LacksDigitAt text at
PartsResult text (Err (BadUnit at)) = LacksUnitAt text at
PartsResult text (Err Empty) = ⊥
PartsResult text (Err TooLong) = ⊥
