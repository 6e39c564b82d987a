-- What holds of what ticks keep, whatever their history is.
use Rattle.std.specs.Prelude.{◌≡◌, ◌≤◌, ◌<◌, ◌+◌, ◌^◌, ℕ, List, [], All, length, Option, Some, None}
use Rattle.std.specs.Option.{ForSome}
use Rattle.cron_ticks.specs.declared.following.Pending.{Pending}
use Rattle.cron_ticks.specs.Schedule.{IsPeriod, IsTick}
use Rattle.cron_ticks.specs.Following.{schedule, IsBehind}

-- a tick, which is due within the longest period behind the greatest moment
pub record IsSoon (periods : List ℕ) (start latest : ℕ) (tick : Pending) : Type 0 where
  pub is : IsTick (schedule periods start) tick.place tick.number tick.due
  pub near : tick.due ≤ latest + 31536000000

-- the moments are in order, and there is a next tick unless there are no bindings
pub record IsBounded (periods : List ℕ) (start latest : ℕ) (next : Option Pending) : Type 0 where
  pub each : All IsPeriod periods
  pub few : length periods < 2 ^ 32
  pub begun : start ≤ latest
  pub moment : latest < 253402300800000
  pub soon : ForSome next (IsSoon periods start latest)
  pub none : next ≡ None → length periods ≡ 0

-- before the first command no tick comes before the next one
pub record IsFresh (periods : List ℕ) (start latest used : ℕ) (next : Option Pending) : Type 0 where
  pub latest_is : used ≡ 0 → latest ≡ start
  pub next_is : used ≡ 0 → (place number due : ℕ) → IsTick (schedule periods start) place number due → ¬ IsBehind next due place
