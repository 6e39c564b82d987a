-- Which ticks a history has taken, and what is answered after it.
use Rattle.std.specs.Prelude.{◌≡◌, ◌≤◌, ◌<◌, ◌⊎◌, ℕ, max, List, [], ◌∷◌, ◌++◌, fold, Option, Some, None}
use Rattle.cron_ticks.specs.declared.command.TicksReply.{TicksReply}
use Rattle.cron_ticks.specs.declared.command.TicksReply.TheVariants.{Tick, Idle}
use Rattle.cron_ticks.specs.Schedule.{Step, Schedule, IsTick, moment_of}

-- the greatest of the start and the moments of the commands
abbrev pub moment_in : ℕ → List Step → ℕ
moment_in start history = fold (λ latest (entry : Step). max latest (moment_of entry.cmd)) start history

-- the answer gives this tick
abbrev pub Gives : TicksReply → ℕ → ℕ → Type 0
Gives (Tick at which due) place number = (at ≡ place) × (which ≡ number)
Gives (Idle next) place number = ⊥

-- an answer of the history has given it
abbrev pub Took : List Step → ℕ → ℕ → Type 0
Took [] place number = ⊥
Took (entry ∷ history) place number = Gives entry.reply place number ⊎ Took history place number

-- a tick of which this holds, of its place, its number and when it is due, and which no answer has given
abbrev pub ForFree : Schedule → List Step → (ℕ → ℕ → ℕ → Type 0) → Type 0
ForFree schedule history fact = (place number due : ℕ) → IsTick schedule place number due → ¬ Took history place number → fact place number due

-- due earlier, or at the same moment and of the same place or one before
abbrev pub IsUpTo : ℕ → ℕ → ℕ → ℕ → Type 0
IsUpTo due place other_due other_place = (due < other_due) ⊎ ((due ≡ other_due) × (place ≤ other_place))

-- the tick is due at a moment or before, no answer has given it, and of all such ticks it is the least by when they are due and then by their places
pub record IsLeast (schedule : Schedule) (history : List Step) (now place number due : ℕ) : Type 0 where
  pub tick : IsTick schedule place number due
  pub free : ¬ Took history place number
  pub ripe : due ≤ now
  pub least : ForFree schedule history (λ other_place other other_due. other_due ≤ now → IsUpTo due place other_due other_place)

-- the least moment at which a tick is due that no answer has given; there is none where there are no bindings
pub record IsNextDue (schedule : Schedule) (history : List Step) (due : ℕ) : Type 0 where
  pub place : ℕ
  pub number : ℕ
  pub tick : IsTick schedule place number due
  pub free : ¬ Took history place number
  pub least : ForFree schedule history (λ other_place other other_due. due ≤ other_due)

abbrev pub IsNext : Schedule → List Step → Option ℕ → Type 0
IsNext schedule history None = schedule.periods ≡ []
IsNext schedule history (Some due) = IsNextDue schedule history due

-- no tick is due that no answer has given
pub record IsIdle (schedule : Schedule) (history : List Step) (now : ℕ) (next : Option ℕ) : Type 0 where
  pub none : ForFree schedule history (λ place number due. now < due)
  pub next_is : IsNext schedule history next

-- what is answered at a moment
abbrev pub Answers : Schedule → List Step → ℕ → TicksReply → Type 0
Answers schedule history now (Tick place number due) = IsLeast schedule history now place number due
Answers schedule history now (Idle next) = IsIdle schedule history now next

-- an entry may come after a history; each moment is before the year 10000
pub record IsStep (schedule : Schedule) (history : List Step) (entry : Step) : Type 0 where
  pub moment : moment_of entry.cmd < 253402300800000
  pub reply : Answers schedule history (moment_in schedule.start (history ++ entry ∷ [])) entry.reply
  pub mark : entry.mark ≡ 0
