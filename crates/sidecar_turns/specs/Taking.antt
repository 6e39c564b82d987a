-- Ticks that are taken behind the connection of a run on standard input, until none is due.
use Rattle.std.specs.Prelude.{◌≡◌, List, [], Option, Some, None}
use Rattle.sidecar_objects.specs.declared.doing.Doing.{Doing}
use Rattle.sidecar_turns.specs.declared.draining.Drained.{Drained}
use Rattle.sidecar_turns.specs.declared.draining.Drained.TheVariants as drained
use Rattle.sidecar_turns.specs.declared.ticking.TickTurn.{TickTurn}
use Rattle.sidecar_turns.specs.declared.ticking.TickTurn.TheVariants.{Ticked, Idle, Held, Exhausted}
use Rattle.sidecar_turns.specs.Crons.{Inputs}
use Rattle.sidecar_turns.specs.Ticking.{Ticks}
use Rattle.sidecar_turns.specs.Repeating.{Repeats}

-- behind a tick the next one is asked for at once
abbrev pub TicksOn : TickTurn → List Doing → Type 0
TicksOn (Ticked posted) between = between ≡ []
TicksOn (Idle next) between = ⊥
TicksOn Held between = ⊥
TicksOn (Exhausted count) between = ⊥

-- anything else ends them so
abbrev pub TicksEnd : TickTurn → Drained → Type 0
TicksEnd (Ticked posted) how = ⊥
TicksEnd (Idle next) how = how ≡ drained.Done
TicksEnd Held how = how ≡ drained.Held
TicksEnd (Exhausted count) how = how ≡ drained.Spent count

-- ticks of these bindings, up to the answer that is none
abbrev pub TakesTicks : Inputs → List Doing → Drained → Type 0
TakesTicks inputs events how = Repeats (Ticks inputs) TicksOn TicksEnd events how

-- the next one is asked for behind this answer, or it ends them
abbrev pub IsLastTick : TickTurn → Option Drained → Type 0
IsLastTick turn None = TicksOn turn []
IsLastTick turn (Some how) = TicksEnd turn how
