-- What is delivered behind the connection of a run on standard input, before the run ends.
use Rattle.std.specs.Prelude.{◌≡◌, ◌≤◌, ◌<◌, ◌+◌, ◌-◌, ℕ, List, [], ◌∷◌, Some, None}
use Rattle.side_world.specs.declared.clock.Tick.TheVariants as tick
use Rattle.side_world.specs.Moments.{Rises}
use Rattle.side_world.specs.Told.{Tells}
use Rattle.policy_run.specs.Effects.{Clocked, ReadsNow}
use Rattle.topic_spec.specs.declared.sub.Sub.{Sub}
use Rattle.delivery_turn.specs.declared.ending.Turn.{Turn}
use Rattle.delivery_turn.specs.declared.ending.Turn.TheVariants.{Delivered, Idle, Held, Exhausted}
use Rattle.sidecar_objects.specs.declared.doing.Doing.{Doing}
use Rattle.sidecar_objects.specs.declared.doing.Doing.TheVariants.{Timed, Waited}
use Rattle.sidecar_turns.specs.declared.draining.Drained.{Drained}
use Rattle.sidecar_turns.specs.declared.draining.Drained.TheVariants as drained
use Rattle.sidecar_turns.specs.declared.draining.Following.{Following}
use Rattle.sidecar_turns.specs.declared.draining.Following.TheVariants.{Another, Waiting, End}
use Rattle.sidecar_turns.specs.Brokers.{Sites}
use Rattle.sidecar_turns.specs.Delivering.{Delivers}
use Rattle.sidecar_turns.specs.Repeating.{Repeats}

-- ---- what follows a turn

-- the clock is read, and paused by what this moment is past the one that it told
abbrev pub Pauses : ℕ → List Doing → Type 0
Pauses due events = (last : ℕ) × (events ≡ Timed last ∷ Waited (due - last) ∷ [])

-- A further turn follows, in a drain that began at a moment: at once behind a delivery; and where a delivery will be due within 60,000 ms of the
-- beginning, after a pause up to then
abbrev pub GoesOn : ℕ → Turn → List Doing → Type 0
GoesOn began (Delivered number sub settled) between = between ≡ []
GoesOn began (Idle None) between = ⊥
GoesOn began (Idle (Some next)) between = (next ≤ began + 60000) × Pauses next between
GoesOn began Held between = ⊥
GoesOn began (Exhausted count) between = ⊥

-- it is the last one, and the drain ends so
abbrev pub Stops : ℕ → Turn → Drained → Type 0
Stops began (Delivered number sub settled) how = ⊥
Stops began (Idle None) how = how ≡ drained.Done
Stops began (Idle (Some next)) how = (began + 60000 < next) × (how ≡ drained.Done)
Stops began Held how = how ≡ drained.Held
Stops began (Exhausted count) how = how ≡ drained.Spent count

-- ---- all turns

-- turns of delivery over the ledgers of these brokers, up to the one that ends the drain
abbrev pub Drains : Sites → List Sub → ℕ → List Doing → Drained → Type 0
Drains sites subs began events how = Repeats (Delivers sites subs) (GoesOn began) (Stops began) events how

-- ---- the parts of a turn, as the code makes them

-- a further turn follows at once, or after a pause up to a moment, or none does
abbrev pub IsFollowed : ℕ → Turn → Following → Type 0
IsFollowed began turn Another = GoesOn began turn []
IsFollowed began turn (Waiting due) = (events : List Doing) → Pauses due events → GoesOn began turn events
IsFollowed began turn (End how) = Stops began turn how

-- the clock was read, and then paused by what a moment is past the one that it told
abbrev pub Pausing : ℕ → Clocked → Clocked → Type 0
Pausing due clock clock' = (last : ℕ) × (between : Clocked) × ReadsNow clock last between × (between.last ≤ clock'.last) × Rises between.paused (due - last) clock'.paused × Tells between.ticks clock'.ticks (tick.Paused (due - last) ∷ [])
