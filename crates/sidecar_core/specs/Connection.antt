-- A connection that is served over the shared objects, by what serves it.
use Rattle.rand_core.specs.Stream.{Stream}
use Rattle.keeper_core.specs.declared.keeper.Keeper.{Ghosts}
use Rattle.side_world.specs.declared.clock.Clock.{Ghosts as Times}
use Rattle.side_world.specs.declared.link.Link.{Ghosts as Asks}
use Rattle.side_world.specs.declared.sink.Sink.{Ghosts as Takes}
use Rattle.side_world.specs.declared.source.Source.{Ghosts as Gives}
use Rattle.state_core.specs.declared.store.Store.{Store}
use Rattle.conn_serve.specs.declared.ended.Ended.{Ended}
use Rattle.conn_serve.specs.Ends.{sink_at, source_at}
use Rattle.conn_serve.specs.Served.{Served}
use Rattle.sidecar_objects.specs.declared.objects.Pass.{Pass}
use Rattle.sidecar_core.specs.declared.shared.Shared.{Shared}
use Rattle.sidecar_objects.specs.Kind.{Kinds}
use Rattle.sidecar_objects.specs.Did.{Did}
use Rattle.sidecar_core.specs.Exchange.{Exchange}
use Rattle.sidecar_core.specs.Shown.{ShownFor}
use Rattle.sidecar_objects.specs.Pass.{cells_of, seats_of, standing}

-- The session of a connection was served: by this pass, with this link, this clock and these random words, from this source, and to this sink
abbrev pub Serves : {K L C R S N : Type 0} {keeper : Ghosts K} → Kinds (Store K keeper) → Asks L → Times C → (R → Stream) → Gives S → Takes N → Shared K keeper → Pass K keeper → Pass K keeper
    → L → L → C → C → R → R → S → S → N → N → Ended → Type 0
Serves kinds asks times stream gives takes shared pass pass' link link' clock clock' rng rng' source source' sink sink' ended = Served (Exchange shared.config)
    (λ events. Did kinds (cells_of shared.objects) (standing asks times pass link clock (stream rng)) events (standing asks times pass' link' clock' (stream rng')))
    (ShownFor shared.config (seats_of pass')) (source_at gives source) (source_at gives source') (sink_at takes sink) (sink_at takes sink') ended
