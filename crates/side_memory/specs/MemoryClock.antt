-- What contracts see of a clock in memory.
use Rattle.std.specs.Prelude.{◌+◌, ℕ, min, List, [], ◌∷◌, Option}
use Rattle.side_world.specs.declared.clock.Tick.{Tick}

pub record ClockState : Type 0 where
  -- the moment
  pub last : ℕ
  -- the sum of all pauses
  pub paused : ℕ
  -- how far the next readings move it on
  pub steps : List ℕ
  -- its calls, where they are told
  pub ticks : Option (List Tick)

-- so many milliseconds later, at most the greatest moment
abbrev pub later : ℕ → ℕ → ℕ
later moment ms = min (moment + ms) 253402300799999

-- how far the next reading moves a clock on: 0 behind the end of its list
abbrev pub first_step : List ℕ → ℕ
first_step [] = 0
first_step (step ∷ steps) = step
