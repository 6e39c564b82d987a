-- Limits as numbers.
use Rattle.std.specs.Prelude.{ℕ}

-- the first millisecond of the year 10000 in UTC, counted from the beginning of 1970
abbrev pub moments_end : ℕ
moments_end = 253402300800000

-- the greatest duration in milliseconds: 8,760 hours
abbrev pub greatest_duration : ℕ
greatest_duration = 31536000000
