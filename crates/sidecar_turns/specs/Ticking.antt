-- Taking the tick that is due first, and calling the app for it, as what is done over all objects.
use Rattle.std.proofs.Common.{inl, inr}
use Rattle.std.specs.Prelude.{◌≡◌, ◌⊎◌, ℕ, List, [], ◌∷◌, ◌++◌, map, unwrap_or, Option, Some, None, Result, Ok, Err}
use mathlib.Core.Option.{some}
use lib.ListN.{get_elem?}
use Rattle.rand_core.specs.Stream.{Stream}
use Rattle.side_world.specs.declared.clock.Clock.{Ghosts as Times}
use Rattle.side_world.specs.declared.link.LinkCall.{LinkCall}
use Rattle.turn_cell.specs.declared.error.ApiErr.{ApiErr}
use Rattle.turn_cell.specs.declared.error.ApiErr.TheVariants as error
use Rattle.keeper_core.specs.declared.keeper.Keeper.{Ghosts}
use Rattle.state_core.specs.declared.store.Store.{Store}
use Rattle.retry_core.specs.declared.policy.Bound.{Bound}
use Rattle.policy_run.specs.Event.{Event}
use Rattle.policy_run.specs.Attempts.{Attempts}
use Rattle.policy_run.specs.Effects.{clocked}
use Rattle.link_call.specs.Linked.{Tries}
use Rattle.link_call.specs.LinkAt.{LinkAt}
use Rattle.cron_ticks.specs.declared.command.TicksCmd.TheVariants.{Take}
use Rattle.cron_ticks.specs.declared.command.TicksReply.{TicksReply}
use Rattle.cron_ticks.specs.declared.command.TicksReply.TheVariants as says
use Rattle.cron_ticks.specs.Schedule.{Step}
use Rattle.cron_bind.specs.declared.posting.Posted.{Posted}
use Rattle.cron_bind.specs.Posting.{Posts}
use Rattle.sidecar_objects.specs.declared.doing.Doing.{Doing}
use Rattle.sidecar_objects.specs.declared.doing.Doing.TheVariants.{Asked, Stepped, Timed}
use Rattle.sidecar_objects.specs.declared.doing.SlotStep.TheVariants as slot
use Rattle.sidecar_objects.specs.declared.objects.Objects.{Objects}
use Rattle.sidecar_objects.specs.declared.objects.Pass.{Pass}
use Rattle.sidecar_objects.specs.Doing.{laid}
use Rattle.sidecar_objects.specs.Kind.{Kinds, SeatsAt, breakers}
use Rattle.sidecar_objects.specs.Did.{Does}
use Rattle.sidecar_objects.specs.Pass.{beside, cells_of}
use Rattle.sidecar_objects.specs.Shown.{Shows, ShowsAt, ticks_show}
use Rattle.sidecar_turns.specs.declared.cron.Cron.{Cron}
use Rattle.sidecar_turns.specs.declared.ticking.TickTurn.{TickTurn}
use Rattle.sidecar_turns.specs.declared.ticking.TickTurn.TheVariants.{Ticked, Idle, Held, Exhausted}
use Rattle.sidecar_turns.specs.declared.ticking.Taking.{Taking}
use Rattle.sidecar_turns.specs.declared.ticking.Taking.TheVariants as taking
use Rattle.sidecar_turns.specs.Crons.{Inputs}

-- ---- one tick

-- a moment is read, and the ticks are asked at it, by this step
pub record Takes (step : Step) (events : List Doing) : Type 0 where
  pub now : ℕ
  pub asked : step.cmd ≡ Take now
  pub whole : events ≡ Timed now ∷ Stepped (slot.Ticks step) ∷ []

-- what is done under what is bound, where an attempt is a call of the link
abbrev pub asked_under : Bound → List (Event LinkCall) → List Doing
asked_under bound attempts = map (laid (λ call. Asked call) (unwrap_or bound.breaker 0)) attempts

-- the app is called for a tick of a binding, under what is bound to what comes from it
pub record PostsFor (port : ℕ) (cron : Cron) (events : List Doing) (came : Result Posted ApiErr) : Type 0 where
  pub attempts : List (Event LinkCall)
  pub posts : Posts (λ asked tried outcome. Attempts cron.bound (Tries asked) outcome tried) port cron.name attempts came
  pub whole : events ≡ asked_under cron.bound attempts

-- what that comes to
abbrev pub turn_of : Result Posted ApiErr → TickTurn
turn_of (Ok posted) = Ticked posted
turn_of (Err error.NoMemory) = Held
turn_of (Err (error.Exhausted count)) = Exhausted count

-- The ticks are asked at a moment. Where they give the tick of a binding, the app is called for it; where none is due, or their cell is exhausted, nothing follows
pub data TicksApp (port : ℕ) (crons : List Cron) (events : List Doing) (turn : TickTurn) : Type 0 where
  ticked : (step : Step) (place number due : ℕ) (cron : Cron) (first rest : List Doing) (came : Result Posted ApiErr) → Takes step first → step.reply ≡ says.Tick place number due → get_elem? crons place ≡ some cron → PostsFor port cron rest came
      → events ≡ first ++ rest → turn ≡ turn_of came → TicksApp port crons events turn
  idle : (step : Step) (next : Option ℕ) → Takes step events → step.reply ≡ says.Idle next → turn ≡ Idle next → TicksApp port crons events turn
  exhausted : (now count : ℕ) → events ≡ Timed now ∷ [] → turn ≡ Exhausted count → TicksApp port crons events turn

-- ---- by what is configured

-- there is no step, and none will be due
abbrev pub TicksNever : List Doing → TickTurn → Type 0
TicksNever events turn = (events ≡ []) × (turn ≡ Idle None)

-- so it is where nothing ticks
abbrev pub TicksSome : ℕ → List Cron → List Doing → TickTurn → Type 0
TicksSome port [] events turn = TicksNever events turn
TicksSome port (cron ∷ crons) events turn = TicksApp port (cron ∷ crons) events turn

-- and without an app port
abbrev pub TicksTo : Option ℕ → List Cron → List Doing → TickTurn → Type 0
TicksTo None crons events turn = TicksNever events turn
TicksTo (Some port) crons events turn = TicksSome port crons events turn

abbrev pub Ticks : Inputs → List Doing → TickTurn → Type 0
Ticks inputs events turn = TicksTo inputs.port inputs.crons events turn

-- ---- exhausted cells

-- the seat of the breaker that is bound shows the count
abbrev pub ShowsGate : {O : Type 0} → Bound → SeatsAt O → ℕ → Type 0
ShowsGate bound seats count = (k : ℕ) × (bound.breaker ≡ Some k) × ShowsAt k count seats.breakers

-- so does that of the breaker of some binding
pub record ShowsCron {O : Type 0} (crons : List Cron) (seats : SeatsAt O) (count : ℕ) : Type 0 where
  pub place : ℕ
  pub cron : Cron
  pub there : get_elem? crons place ≡ some cron
  pub shown : ShowsGate cron.bound seats count

-- the seat of the ticks shows it, or that of the breaker of some binding
abbrev pub ShowsTick : {O : Type 0} → List Cron → SeatsAt O → ℕ → Type 0
ShowsTick crons seats count = (seats.ticks.count ≡ Some count) ⊎ ShowsCron crons seats count

-- so a seat of the pass shows it
pub tick_shows : {O : Type 0} (crons : List Cron) (seats : SeatsAt O) (count : ℕ) → ShowsTick crons seats count → Shows seats count
tick_shows crons seats count (inl ticks) = ticks_show seats count ticks
tick_shows crons seats count (inr cron) = record { kind = breakers; place = cron.shown.0; shown = cron.shown.2 }

-- ---- the parts of it, as the code makes them

abbrev pub taking_of : TicksReply → Taking
taking_of (says.Tick place number due) = taking.Tick place
taking_of (says.Idle next) = taking.Ended (Idle next)

-- the ticks were asked, and so it goes on
pub data TakesBy (taken : Taking) (events : List Doing) : Type 0 where
  stepped : (step : Step) → Takes step events → taken ≡ taking_of step.reply → TakesBy taken events
  exhausted : (now count : ℕ) → events ≡ Timed now ∷ [] → taken ≡ taking.Ended (Exhausted count) → TakesBy taken events

-- something was done by the pass and the clock alone, whatever a link shows, and whatever random words follow
abbrev pub DoesByClock : {K : Type 0} {keeper : Ghosts K} {C : Type 0} → Kinds (Store K keeper) → Times C → Objects K keeper → Pass K keeper → Pass K keeper → C → C → (List Doing → Type 0) → Type 0
DoesByClock kinds times objects pass pass' clock clock' holds = (link : LinkAt) (words : Stream)
    → Does kinds (cells_of objects) (beside link (clocked times clock) words pass) (beside link (clocked times clock') words pass') holds
