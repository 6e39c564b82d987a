-- The tick that comes after another one, by when they are due and then by their places.
use Rattle.std.specs.Prelude.{◌≡◌, ◌≤◌, ◌<◌, ◌+◌, ◌*◌, ◌⊎◌, ℕ, Bool, true, List, [], length, Option, Some, None}
use Rattle.cron_ticks.specs.declared.command.TicksReply.{TicksReply}
use Rattle.cron_ticks.specs.declared.command.TicksReply.TheVariants.{Tick, Idle}
use Rattle.cron_ticks.specs.declared.following.Pending.{Pending}
use Rattle.cron_ticks.specs.declared.following.Turn.{Turn}
use Rattle.cron_ticks.specs.Schedule.{Schedule, IsTick}
use Rattle.cron_ticks.specs.Course.{IsUpTo}

abbrev pub schedule : List ℕ → ℕ → Schedule
schedule periods start = record { periods = periods; start = start }

-- due earlier, or at the same moment and of a place before
abbrev pub IsBefore : ℕ → ℕ → ℕ → ℕ → Type 0
IsBefore due place other_due other_place = (due < other_due) ⊎ ((due ≡ other_due) × (place < other_place))

-- the moment is later, or the same where that counts
abbrev pub IsLater : ℕ → Bool → ℕ → Type 0
IsLater due counts_there other_due = (due < other_due) ⊎ ((due ≡ other_due) × (counts_there ≡ true))

-- the first tick of a binding that is due later
pub record IsFirstLater (period start due : ℕ) (counts_there : Bool) (turn : Turn) : Type 0 where
  pub counted : 1 ≤ turn.number
  pub due_is : turn.due ≡ start + turn.number * period
  pub later : IsLater due counts_there turn.due
  pub near : turn.due ≤ due + 31536000000
  pub first : (number : ℕ) → 1 ≤ number → IsLater due counts_there (start + number * period) → turn.due ≤ start + number * period

-- of two ticks the one that was found first, unless the other is due earlier
abbrev pub IsEarlier : Option Pending → Pending → Option Pending → Type 0
IsEarlier None other result = result ≡ Some other
IsEarlier (Some found) other result = ((found.due ≤ other.due) × (result ≡ Some found)) ⊎ ((other.due < found.due) × (result ≡ Some other))

-- a tick behind this moment and place, and the first of those of bindings below a place
pub record IsFirstBelow (schedule : Schedule) (due place below : ℕ) (tick : Pending) : Type 0 where
  pub is : IsTick schedule tick.place tick.number tick.due
  pub behind : IsBefore due place tick.due tick.place
  pub among : tick.place < below
  pub near : tick.due ≤ due + 31536000000
  pub first : (other_place number other_due : ℕ) → other_place < below → IsTick schedule other_place number other_due → IsBefore due place other_due other_place
      → IsUpTo tick.due tick.place other_due other_place

abbrev pub IsFoundBelow : Schedule → ℕ → ℕ → ℕ → Option Pending → Type 0
IsFoundBelow schedule due place below None = below ≡ 0
IsFoundBelow schedule due place below (Some tick) = IsFirstBelow schedule due place below tick

abbrev pub IsFollowing : Schedule → ℕ → ℕ → Option Pending → Type 0
IsFollowing schedule due place next = IsFoundBelow schedule due place (length schedule.periods) next

-- what is answered, and which tick is to be taken next then
abbrev pub IsAnswered : Schedule → Option Pending → ℕ → TicksReply × Option Pending → Type 0
IsAnswered schedule None now (reply, next) = (reply ≡ Idle None) × (next ≡ None)
IsAnswered schedule (Some tick) now (reply, next) =
    ((tick.due ≤ now) × (reply ≡ Tick tick.place tick.number tick.due) × IsFollowing schedule tick.due tick.place next)
    ⊎ ((now < tick.due) × (reply ≡ Idle (Some tick.due)) × (next ≡ Some tick))

-- a tick that is due then comes before the next one
abbrev pub IsBehind : Option Pending → ℕ → ℕ → Type 0
IsBehind None due place = ⊥
IsBehind (Some next) due place = IsBefore due place next.due next.place
