-- Deliveries and ticks of what is configured.
use Rattle.std.specs.Prelude.{ℕ, List}
use Rattle.sidecar_objects.specs.declared.doing.Doing.{Doing}
use Rattle.sidecar_turns.specs.declared.draining.Drained.{Drained}
use Rattle.sidecar_turns.specs.declared.idling.IdleTurn.{IdleTurn}
use Rattle.sidecar_turns.specs.declared.ticking.TickTurn.{TickTurn}
use Rattle.sidecar_turns.specs.Brokers.{Sites, sites_of}
use Rattle.sidecar_turns.specs.Crons.{Inputs, crons_of}
use Rattle.sidecar_turns.specs.Draining.{Drains}
use Rattle.sidecar_turns.specs.Idling.{Idles}
use Rattle.sidecar_turns.specs.Taking.{TakesTicks}
use Rattle.sidecar_turns.specs.Ticking.{Ticks}
use Rattle.sidecar_core.specs.declared.config.Config.{Config}

-- what deliveries need of a configuration
abbrev pub brokers_in : Config → Sites
brokers_in config = sites_of config.app_port config.components config.policies

-- what ticks need of it
abbrev pub crons_in : Config → Inputs
crons_in config = crons_of config.app_port config.components config.policies

-- what a worker does when no connection came
abbrev pub IdlesIn : Config → List Doing → IdleTurn → Type 0
IdlesIn config events turn = Idles (crons_in config) (brokers_in config) config.subs events turn

-- the tick that is due first is taken, and the app is called for it
abbrev pub TicksIn : Config → List Doing → TickTurn → Type 0
TicksIn config events turn = Ticks (crons_in config) events turn

-- the ticks that are due behind the connection of a run on standard input are taken, one after the other
abbrev pub TakesTicksIn : Config → List Doing → Drained → Type 0
TakesTicksIn config events how = TakesTicks (crons_in config) events how

-- what is delivered behind the connection of a run on standard input, from this moment on
abbrev pub DrainsIn : Config → ℕ → List Doing → Drained → Type 0
DrainsIn config began events how = Drains (brokers_in config) config.subs began events how
