-- Workers that were met, one after the other, and whose parts went back.
use Rattle.std.specs.Prelude.{◌≡◌, ◌≢◌, ◌||◌, ℕ, Bool, false, List, [], ◌∷◌, Option, Some, None}
use Rattle.std.specs.Option.{option_or}
use Rattle.side_world.specs.Faults.{RoseWith}
use Rattle.side_world.specs.Outside.{Backs}
use Rattle.side_world.specs.declared.outside.Outside.{Ghosts as Lends}
use Rattle.keeper_core.specs.declared.keeper.Keeper.{Ghosts}
use Rattle.state_core.specs.declared.store.Store.{Store}
use Rattle.sidecar_objects.specs.declared.objects.Pass.{Pass}
use Rattle.sidecar_objects.specs.Kind.{CellsAt, Kinds, SeatsAt}
use Rattle.sidecar_objects.specs.Pass.{seats_of}
use Rattle.sidecar_serving.specs.Ending.{has_reason, is_failed, is_stopped, spent_by}
use Rattle.sidecar_serving.specs.Opened.{WorkerAt}
use Rattle.sidecar_objects.specs.Passes.{MetPass}

-- where workers are met: the pass of the root seats, what has come back of workers, where that is told, and how often the outside has failed
pub record HubAt (O : Type 0) : Type 0 where
  pub seats : SeatsAt O
  pub backs : Option Backs
  pub faults : ℕ

abbrev pub hub_at : {K O D A L C S N : Type 0} {keeper : Ghosts K} → Lends O D A L C S N → Pass K keeper → O → HubAt (Store K keeper)
hub_at lends pass outside = record { seats = seats_of pass; backs = lends.backs outside; faults = lends.faults outside }

-- where it is told afterwards what came back, it was told before, and changed at the number of this worker alone: what its acceptor and its link told
abbrev pub IsReturned : {O : Type 0} → WorkerAt O → Option Backs → Option Backs → Type 0
IsReturned w before after =
    (backs' : Backs) → after ≡ Some backs'
    → (backs : Backs) × (before ≡ Some backs)
    × (backs' w.number ≡ Some (record { answers = w.reached.told; calls = w.reached.at.link.calls }))
    × ((other : ℕ) → other ≢ w.number → backs' other ≡ backs other)

-- a worker was met, and its parts went back
pub record IsMet {O : Type 0} (kinds : Kinds O) (cells : CellsAt O) (w : WorkerAt O) (at after : HubAt O) : Type 0 where
  pub passes : MetPass kinds cells at.seats w.reached.at.seats after.seats
  pub back : IsReturned w at.backs after.backs
  pub faults : RoseWith w.faults at.faults after.faults

-- all of them, the last one first
pub data AreMet {O : Type 0} (kinds : Kinds O) (cells : CellsAt O) : List (WorkerAt O) → HubAt O → HubAt O → Type 0 where
  nobody : (hub : HubAt O) → AreMet kinds cells [] hub hub
  one : (w : WorkerAt O) (workers : List (WorkerAt O)) (at between after : HubAt O) → AreMet kinds cells workers at between → IsMet kinds cells w between after → AreMet kinds cells (w ∷ workers) at after

module _ {O : Type 0} where
  -- what was read in an exhausted cell by the first worker that one ended
  abbrev pub spent_in : List (WorkerAt O) → Option ℕ
  spent_in [] = None
  spent_in (w ∷ workers) = option_or (spent_by w.ended) (spent_in workers)

  abbrev pub failed_in : List (WorkerAt O) → Bool
  failed_in [] = false
  failed_in (w ∷ workers) = is_failed w.ended || failed_in workers

  abbrev pub stopped_in : List (WorkerAt O) → Bool
  stopped_in [] = false
  stopped_in (w ∷ workers) = is_stopped w.ended || stopped_in workers

  abbrev pub reason_in : List (WorkerAt O) → Bool
  reason_in [] = false
  reason_in (w ∷ workers) = has_reason w.ended || reason_in workers
