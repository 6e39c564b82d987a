-- What holds of every history of ticks.
use Rattle.std.specs.Prelude.{◌≡◌, ◌<◌, ◌-◌, ◌/◌, ◌==◌, if◌then◌else◌, ℕ, zero, suc, List, [], ◌∷◌, ◌++◌, length, Option}
use Rattle.std.specs.List.{flat_map}
use Rattle.cron_ticks.specs.declared.command.TicksReply.{TicksReply}
use Rattle.cron_ticks.specs.declared.command.TicksReply.TheVariants.{Tick, Idle}
use Rattle.cron_ticks.specs.Schedule.{Step, Schedule, period_at}
use Rattle.cron_ticks.specs.Course.{moment_in}

-- the number of the tick that an answer gives, if it is one of this place
abbrev pub number_in : ℕ → TicksReply → List ℕ
number_in place (Tick at number due) = if at == place then number ∷ [] else []
number_in place (Idle next) = []

-- the numbers of the ticks of a place that a history has given, in order
abbrev pub numbers_at : ℕ → List Step → List ℕ
numbers_at place history = flat_map (λ (entry : Step). number_in place entry.reply) history

-- the numbers from 1 to this one
abbrev pub up_to : ℕ → List ℕ
up_to zero = []
up_to (suc count) = up_to count ++ suc count ∷ []

abbrev pub AreInOrder : Schedule → List Step → Type 0
AreInOrder schedule history = (place : ℕ) → place < length schedule.periods → (count : ℕ) × (numbers_at place history ≡ up_to count)

-- where an answer is that none is due, as many were given as whole periods have passed
abbrev pub TakesAllThatAreDue : Schedule → List Step → Type 0
TakesAllThatAreDue schedule history = (before after : List Step) (entry : Step) (next : Option ℕ) → history ≡ before ++ entry ∷ after → entry.reply ≡ Idle next → (place : ℕ) → place < length schedule.periods
    → numbers_at place before ≡ up_to ((moment_in schedule.start (before ++ entry ∷ []) - schedule.start) / period_at schedule place)
