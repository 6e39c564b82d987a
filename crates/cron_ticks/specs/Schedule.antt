-- Bindings with their periods, and their ticks.
use Rattle.std.specs.Prelude.{◌≡◌, ◌≤◌, ◌<◌, ◌+◌, ◌*◌, ℕ, List, length, slice_index_or}
use Rattle.turn_cell.specs.declared.entry.Entry.{Entry}
use Rattle.cron_ticks.specs.declared.command.TicksCmd.{TicksCmd}
use Rattle.cron_ticks.specs.declared.command.TicksCmd.TheVariants.{Take}
use Rattle.cron_ticks.specs.declared.command.TicksReply.{TicksReply}

-- one entry of a history
abbrev pub Step : Type 0
Step = Entry TicksCmd TicksReply

abbrev pub moment_of : TicksCmd → ℕ
moment_of (Take now) = now

-- a period in milliseconds: from a second to a year of 365 days
pub record IsPeriod (period : ℕ) : Type 0 where
  pub least : 1000 ≤ period
  pub most : period ≤ 31536000000

-- the periods of bindings, in order, and when they start
pub record Schedule : Type 0 where
  pub periods : List ℕ
  pub start : ℕ

abbrev pub period_at : Schedule → ℕ → ℕ
period_at schedule place = slice_index_or schedule.periods place 0

-- the tick of this number, from 1, of the binding at this place is due so many periods after the start
pub record IsTick (schedule : Schedule) (place number due : ℕ) : Type 0 where
  pub there : place < length schedule.periods
  pub counted : 1 ≤ number
  pub due_is : due ≡ schedule.start + number * period_at schedule place
