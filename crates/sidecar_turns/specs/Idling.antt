-- What a worker does when it is idle: part after part.
use Rattle.std.specs.Prelude.{◌≡◌, ◌⊎◌, ℕ, List, ◌++◌, Option}
use Rattle.std.proofs.Common.{⊎_elim}
use Rattle.retry_core.specs.declared.policy.Bound.{Bound}
use Rattle.topic_spec.specs.declared.sub.Sub.{Sub}
use Rattle.delivery_turn.specs.declared.ending.Turn.{Turn}
use Rattle.delivery_turn.specs.declared.ending.Turn.TheVariants as ended
use Rattle.sidecar_objects.specs.declared.doing.Doing.{Doing}
use Rattle.sidecar_objects.specs.Kind.{SeatsAt}
use Rattle.sidecar_objects.specs.Shown.{Shows}
use Rattle.sidecar_turns.specs.declared.cron.Cron.{Cron}
use Rattle.sidecar_turns.specs.declared.ticking.TickTurn.{TickTurn}
use Rattle.sidecar_turns.specs.declared.ticking.TickTurn.TheVariants as ticking
use Rattle.sidecar_turns.specs.declared.idling.IdleTurn.{IdleTurn}
use Rattle.sidecar_turns.specs.declared.idling.IdleTurn.TheVariants.{Did, Idle, Held, Exhausted}
use Rattle.sidecar_turns.specs.Brokers.{Sites}
use Rattle.sidecar_turns.specs.Crons.{Inputs}
use Rattle.sidecar_turns.specs.Delivering.{Delivers, ShowsOne, earlier, one_shows}
use Rattle.sidecar_turns.specs.Ticking.{ShowsTick, Ticks, tick_shows}

-- ---- parts of a turn

-- a part of a turn: the events that it has, and what it comes to
abbrev pub Part : Type 1
Part = List Doing → IdleTurn → Type 0

-- want of memory and an exhausted cell end the turn
abbrev pub Ends : IdleTurn → Type 0
Ends turn = (turn ≡ Held) ⊎ ((count : ℕ) × (turn ≡ Exhausted count))

-- what a part comes to, where nothing is due behind it before `later`
abbrev pub until : IdleTurn → Option ℕ → IdleTurn
until (Idle next) later = Idle (earlier next later)
until other later = other

-- What a part and the one behind it come to: where one of them did something, that is told; of two that are idle the earlier moment; and what ended the turn
abbrev pub both : IdleTurn → IdleTurn → IdleTurn
both part (Idle later) = until part later
both part other = other

-- one part, and then, unless it ends the turn, another
pub data Then (part others : Part) (events : List Doing) (turn : IdleTurn) : Type 0 where
  alone : part events turn → Ends turn → Then part others events turn
  followed : (first rest : List Doing) (one two : IdleTurn) → part first one → ¬ Ends one → others rest two → events ≡ first ++ rest → turn ≡ both one two → Then part others events turn

-- ---- an idle turn

abbrev pub of_tick : TickTurn → IdleTurn
of_tick (ticking.Ticked posted) = Did
of_tick (ticking.Idle next) = Idle next
of_tick ticking.Held = Held
of_tick (ticking.Exhausted count) = Exhausted count

abbrev pub of_delivery : Turn → IdleTurn
of_delivery (ended.Delivered number sub settled) = Did
of_delivery (ended.Idle next) = Idle next
of_delivery ended.Held = Held
of_delivery (ended.Exhausted count) = Exhausted count

-- a tick as a part of it
abbrev pub TickPart : Inputs → Part
TickPart inputs events turn = (came : TickTurn) × Ticks inputs events came × (turn ≡ of_tick came)

-- a turn of delivery
abbrev pub DeliveryPart : Sites → List Sub → Part
DeliveryPart sites subs events turn = (came : Turn) × Delivers sites subs events came × (turn ≡ of_delivery came)

-- The tick that is due first, and then a turn of delivery. What comes to stand between both is a further part
abbrev pub Idles : Inputs → Sites → List Sub → Part
Idles inputs sites subs = Then (TickPart inputs) (DeliveryPart sites subs)

-- ---- exhausted cells

-- the seat of a cell that the parts ask shows the count
abbrev pub ShowsIdle : {O : Type 0} → List Cron → List Bound → SeatsAt O → ℕ → Type 0
ShowsIdle crons inbound seats count = ShowsTick crons seats count ⊎ ShowsOne inbound seats count

-- so a seat of the pass shows it
pub idle_shows : {O : Type 0} (crons : List Cron) (inbound : List Bound) (seats : SeatsAt O) (count : ℕ) → ShowsIdle crons inbound seats count → Shows seats count
idle_shows crons inbound seats count shows = ⊎_elim (tick_shows crons seats count) (one_shows inbound seats count) shows
