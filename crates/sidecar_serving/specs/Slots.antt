-- Slots of workers, as they are opened and as they are met.
use Rattle.std.specs.Prelude.{◌≡◌, ℕ, true, false, is_some}
use Rattle.atomic_table.specs.Seated.{TableId}
use Rattle.rand_core.specs.Stream.{Stream}
use Rattle.rand_core.specs.declared.Rng.{Ghosts as Draws}
use Rattle.keeper_core.specs.declared.keeper.Keeper.{Ghosts as Keeps}
use Rattle.side_world.specs.declared.acceptor.Acceptor.{Ghosts as Accepts}
use Rattle.side_world.specs.declared.clock.Clock.{Ghosts as Times}
use Rattle.side_world.specs.declared.link.Link.{Ghosts as Asks}
use Rattle.side_world.specs.declared.sink.Sink.{Ghosts as Writes}
use Rattle.side_world.specs.declared.source.Source.{Ghosts as Reads}
use Rattle.state_core.specs.declared.store.Store.{Store}
use Rattle.sidecar_core.specs.declared.shared.Shared.{Shared}
use Rattle.sidecar_objects.specs.Pass.{cells_of, seats_of, standing}
use Rattle.sidecar_workers.specs.declared.slot.Slot.{Slot}
use Rattle.sidecar_workers.specs.StopSeat.{child_of}
use Rattle.sidecar_serving.specs.declared.due.Due.TheVariants as dues
use Rattle.sidecar_serving.specs.declared.serving.Serving.{Serving}
use Rattle.sidecar_serving.specs.Ending.{has_reason, is_stopped}
use Rattle.sidecar_serving.specs.Opened.{IsOpened, WorkerAt}
use Rattle.sidecar_objects.specs.Passes.{IsSplitOffPass}

module _ {K A L C R S N : Type 0} {keeping : Keeps K} {accepts : Accepts A S N} {reads : Reads S} {writes : Writes N} {asks : Asks L} {times : Times C} {draws : Draws R} where
  -- the worker in a slot
  abbrev pub worker_at : Slot (Serving K A L C R S N keeping accepts reads writes asks times draws) → WorkerAt (Store K keeping)
  worker_at slot = record {
    number = slot.number;
    reached = record { at = standing asks times slot.work.pass slot.work.link slot.work.clock (draws.stream slot.work.rng); told = accepts.told slot.work.acceptor; exit = slot.work.exit };
    faults = accepts.faults slot.work.acceptor;
    ended = slot.exit;
  }

  -- a worker that was just opened over these objects waits in it, with a seat of this stop word that was just split off
  pub record IsOpenedSlot (stop : TableId) (shared : Shared K keeping) (number : ℕ) (words : Stream) (slot : Slot (Serving K A L C R S N keeping accepts reads writes asks times draws)) : Type 0 where
    pub worker : IsOpened (cells_of shared.objects) number words (worker_at slot)
    pub seat : slot.seat ≡ child_of stop
    pub due : slot.work.due ≡ dues.Nothing
    pub over : slot.work.shared.now ≡ shared

  -- the worker in it may be met: it has nothing to do, and its seats were split off; its seat of the stop word has ended exactly where the worker's exit ends all others, and has found
  -- the word set where others ended the worker
  pub record IsReadySlot (stop : TableId) (shared : Shared K keeping) (slot : Slot (Serving K A L C R S N keeping accepts reads writes asks times draws)) : Type 0 where
    pub due : slot.work.due ≡ dues.Nothing
    pub pass : IsSplitOffPass (cells_of shared.objects) (seats_of slot.work.pass)
    pub table : slot.seat.table ≡ stop
    pub branch : slot.seat.is_root ≡ false
    pub fresh : slot.seat.kept_ended ≡ false
    pub ended : is_some slot.seat.ended ≡ has_reason slot.exit
    pub found : is_stopped slot.exit ≡ true → slot.seat.found ≡ true
