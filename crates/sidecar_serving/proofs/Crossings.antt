-- Which types may cross threads.
use denote.RattleType.{RattleType}
use denote.Ref.{NamedLft}
use denote.Param.Send.{IsSend, IsSync, recorded_send, recorded_sync, shr_send, struct_send, struct_sync, sendable}
use denote.Struct.Declared as declared
use Rattle.std.proofs.alloc.Global.TheSendSync as global
use Rattle.std.proofs.Crossing.{crosses}
use Rattle.keeper_core.specs.declared.keeper.Keeper.{Ghosts}
use Rattle.conn_serve.proofs.buffers.Buffers.TheSendSync as buffers
use Rattle.api_routes.specs.contracts.routers.Routers as Routers
use Rattle.ledger_core.specs.contracts.ledger.Ledger as Ledger
use Rattle.ledger_core.proofs.tree.Tree.TheLaws.TheKnot as tree
use Rattle.matchit.proofs.tree.Node.TheLaws.TheKnot as node
use Rattle.meta_api.proofs.response.ComponentNote.TheSendSync as note
use Rattle.meta_api.proofs.response.SubscriptionNote.TheSendSync as sub_note
use Rattle.side_base.proofs.sequence.Sequence.TheSendSync as sequence
use Rattle.turn_cell.proofs.cell.Seat.TheSendSync as seat
use Rattle.turn_cell.proofs.cell.TurnCell.TheSendSync as cell
use Rattle.state_core.proofs.store.Store.TheSendSync as store
use Rattle.breaker_core.proofs.breaker.Breaker.TheSendSync as breaker
use Rattle.actor_turns.proofs.turns.Turns.TheSendSync as turns
use Rattle.cron_ticks.proofs.ticks.Ticks.TheSendSync as ticks
use Rattle.meta_api.proofs.notes.Notes.TheSendSync as notes
use Rattle.sidecar_core.proofs.config.Config.TheSendSync as config
use Rattle.sidecar_core.proofs.site.StoreSite.TheSendSync as site
use Rattle.sidecar_turns.proofs.brokers.Brokers.TheSendSync as brokers
use Rattle.sidecar_turns.proofs.crons.Crons.TheSendSync as crons
use Rattle.sidecar_objects.specs.contracts.objects.Objects as Objects
use Rattle.sidecar_objects.specs.contracts.objects.Pass as Pass
use Rattle.sidecar_core.specs.contracts.shared.Shared as Shared
use Rattle.sidecar_workers.proofs.exit.Exit.TheSendSync as exit
use Rattle.sidecar_serving.proofs.due.Due.TheSendSync as due
use Rattle.sidecar_serving.specs.contracts.serving.Serving as Serving
use Rattle.rand_core.specs.declared.Rng.{Ghosts as Draws}
use Rattle.side_world.specs.declared.acceptor.Acceptor.{Ghosts as Accepts}
use Rattle.side_world.specs.declared.clock.Clock.{Ghosts as Times}
use Rattle.side_world.specs.declared.link.Link.{Ghosts as Asks}
use Rattle.side_world.specs.declared.sink.Sink.{Ghosts as Writes}
use Rattle.side_world.specs.declared.source.Source.{Ghosts as Reads}

ledger_send : IsSend Ledger.the_row
ledger_send = search (tree.crosses, crosses, sendable) depth 60 fits 20000

routers_sync : IsSync Routers.the_row
routers_sync = search (node.crosses, crosses, sendable) depth 60 fits 20000

module _ (T : RattleType) (g : Ghosts T.Denot) where
  pub pass_send : IsSend T → IsSend (Pass.the_field T g).row
  pass_send s = search (seat.the_send, store.the_send, ledger_send, breaker.the_send, notes.the_send, turns.the_send, ticks.the_send, crosses, sendable) depth 60 fits 20000

  objects_sync : IsSend T → IsSync (Objects.the_field T g).row
  objects_sync s = search (cell.the_sync, store.the_send, ledger_send, breaker.the_send, notes.the_send, turns.the_send, ticks.the_send, crosses, sendable) depth 60 fits 20000

  pub shared_sync : IsSend T → IsSync (Shared.the_row T g)
  shared_sync s = recorded_sync (Shared.the_field T g).row _ _ (Shared.the_type T g).to_one (struct_sync (declared.shape (Shared.the_type T g)) (
    config.the_field_sync,
    (
      objects_sync s,
      (
        search (global.the_field_sync, global.the_sync, crosses, sendable) depth 60 fits 20000,
        (
          routers_sync,
          (
            search (site.the_sync, crosses, sendable) depth 60 fits 20000,
            (
              search (brokers.the_sync, crosses, sendable) depth 60 fits 20000,
              (
                search (crons.the_sync, crosses, sendable) depth 60 fits 20000,
                (
                  search (note.the_sync, sequence.the_sync, crosses, sendable) depth 60 fits 20000,
                  (search (sub_note.the_sync, sequence.the_sync, crosses, sendable) depth 60 fits 20000, tt),
                ),
              ),
            ),
          ),
        ),
      ),
    ),
  ))

-- what a worker works with may go to a thread
module _ (ℓ : NamedLft) (T A L C R S N : RattleType) (g : Ghosts T.Denot) (accepts : Accepts A.Denot S.Denot N.Denot) (reads : Reads S.Denot) (writes : Writes N.Denot) (asks : Asks L.Denot) (times : Times C.Denot) (draws : Draws R.Denot) where
  pub serving_send : IsSend T → IsSend A → IsSend L → IsSend C → IsSend R → IsSend S → IsSend N → IsSend (Serving.the_row ℓ T A L C R S N g accepts reads writes asks times draws)
  serving_send t a l c r s n = recorded_send (Serving.the_field ℓ T A L C R S N g accepts reads writes asks times draws).row _ _ (Serving.the_type ℓ T A L C R S N g accepts reads writes asks times draws).to_one
      (struct_send (declared.shape (Serving.the_type ℓ T A L C R S N g accepts reads writes asks times draws)) (shr_send _ _ _ (shared_sync T g t), (pass_send T g t, (buffers.the_field_send, (a, (l, (c, (r, (due.the_field_send S N s n, (search (exit.the_send, crosses, sendable) depth 60 fits 20000, tt))))))))))
