-- What ticks stand for.
use Rattle.std.specs.Prelude.{◌≡◌, ◌↔◌, ℕ, List, [], length, Option, refl}
use Rattle.cron_ticks.specs.declared.ticks.Ticks.{Ticks}
use Rattle.cron_ticks.specs.Schedule.{Step, Schedule, IsTick}
use Rattle.cron_ticks.specs.Course.{Took, moment_in}
use Rattle.cron_ticks.specs.Following.{schedule, IsBehind}

abbrev pub schedule_of : Ticks → Schedule
schedule_of ticks = schedule ticks.periods ticks.start

-- after this history from the ticks `first`
pub record Stands (first : Ticks) (history : List Step) (ticks : Ticks) : Type 0 where
  pub periods : ticks.periods ≡ first.periods
  pub start : ticks.start ≡ first.start
  pub used : ticks.used ≡ length history
  pub latest : ticks.latest ≡ moment_in first.start history
  pub taken : (place number due : ℕ) → IsTick (schedule_of first) place number due → Took history place number ↔ IsBehind ticks.next due place

-- ticks that were asked nothing stand for the empty history
pub opens : (first : Ticks) → first.used ≡ 0 → Stands first [] first
opens first unused = record {
  periods = refl;
  start = refl;
  used = unused;
  latest = first.fresh.latest_is unused;
  taken = λ place number due tick. ((λ took. absurd took), (λ behind. absurd (first.fresh.next_is unused place number due tick behind)));
}
