-- Who does other work than connections, and for how long a worker rests.
use Rattle.std.specs.Prelude.{ℕ, ◌-◌, min, max}

-- of so many workers all but one do other work at a time at most, and one where there is no other
abbrev pub most_at_work : ℕ → ℕ
most_at_work workers = max (workers - 1) 1

-- for how many milliseconds a worker rests who looks again at this moment: a second at most
abbrev pub rest_until : ℕ → ℕ → ℕ
rest_until now at = min (at - now) 1000
