-- A connection that was served by a desk was served by what the desk holds.
use Rattle.std.specs.Prelude.{◌≡◌, List, Result}
use Rattle.std.proofs.Common.{sym, subst}
use Rattle.rand_core.specs.Stream.{Stream}
use Rattle.keeper_core.specs.declared.keeper.Keeper.{Ghosts}
use Rattle.side_base.specs.declared.message.Request.{Request}
use Rattle.side_base.specs.declared.message.Response.{Response}
use Rattle.side_world.specs.declared.clock.Clock.{Ghosts as Times}
use Rattle.side_world.specs.declared.link.Link.{Ghosts as Asks}
use Rattle.turn_cell.specs.declared.error.ApiErr.{ApiErr}
use Rattle.state_core.specs.declared.store.Store.{Store}
use Rattle.conn_serve.specs.declared.ended.Ended.{Ended}
use Rattle.conn_serve.specs.Ends.{SourceAt, SinkAt}
use Rattle.conn_serve.specs.Served.{Served}
use Rattle.sidecar_core.specs.declared.config.Config.{Config}
use Rattle.sidecar_objects.specs.declared.doing.Doing.{Doing}
use Rattle.sidecar_objects.specs.declared.objects.Pass.{Pass}
use Rattle.sidecar_objects.specs.Kind.{CellsAt, Kinds}
use Rattle.sidecar_objects.specs.Did.{Standing, Did}
use Rattle.sidecar_objects.specs.Pass.{seats_of, standing}
use Rattle.sidecar_core.specs.Shown.{ShownFor}

module _ {K L C R : Type 0} {keeper : Ghosts K} (asks : Asks L) (times : Times C) (stream : R → Stream) {kinds : Kinds (Store K keeper)} {cells : CellsAt (Store K keeper)} {exchange : Request → List Doing → Result Response ApiErr → Type 0} {before : Standing (Store K keeper)} {source source' : SourceAt} {sink sink' : SinkAt} {ended : Ended} where
  pub served_at : (config : Config) (pass pass' : Pass K keeper) (link link' : L) (clock clock' : C) (rng rng' : R) → pass' ≡ pass → link' ≡ link → clock' ≡ clock → rng' ≡ rng
      → Served exchange (λ events. Did kinds cells before events (standing asks times pass link clock (stream rng))) (ShownFor config (seats_of pass)) source source' sink sink' ended
      → Served exchange (λ events. Did kinds cells before events (standing asks times pass' link' clock' (stream rng'))) (ShownFor config (seats_of pass')) source source' sink sink' ended
  served_at config pass pass' link link' clock clock' rng rng' e f g h served =
      subst (λ z. Served exchange (λ events. Did kinds cells before events (standing asks times z link' clock' (stream rng'))) (ShownFor config (seats_of z)) source source' sink sink' ended) (sym e)
      (subst (λ z. Served exchange (λ events. Did kinds cells before events (standing asks times pass z clock' (stream rng'))) (ShownFor config (seats_of pass)) source source' sink sink' ended) (sym f)
      (subst (λ z. Served exchange (λ events. Did kinds cells before events (standing asks times pass link z (stream rng'))) (ShownFor config (seats_of pass)) source source' sink sink' ended) (sym g)
      (subst (λ z. Served exchange (λ events. Did kinds cells before events (standing asks times pass link clock (stream z))) (ShownFor config (seats_of pass)) source source' sink sink' ended) (sym h) served)))
