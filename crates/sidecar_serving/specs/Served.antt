-- Serving as a whole: workers are opened, run, and met.
use Rattle.std.specs.Prelude.{◌≡◌, ◌⊎◌, ◌≤◌, ◌<◌, ℕ, true, List, length, map, All, IsSome, Option}
use Rattle.rand_core.specs.Stream.{Stream}
use Rattle.side_world.specs.declared.outside.Outside.{Ghosts as Lends}
use Rattle.side_world.specs.declared.outside.OutsideCall.{OutsideCall}
use Rattle.side_world.specs.Faults.{Rose}
use Rattle.side_world.specs.Told.{Tells}
use Rattle.keeper_core.specs.declared.keeper.Keeper.{Ghosts}
use Rattle.state_core.specs.declared.store.Store.{Store}
use Rattle.sidecar_core.specs.declared.config.Config.{Config}
use Rattle.sidecar_objects.specs.declared.objects.Pass.{Pass}
use Rattle.sidecar_core.specs.declared.shared.Shared.{Shared}
use Rattle.sidecar_objects.specs.Kind.{CellsAt, Kinds}
use Rattle.sidecar_objects.specs.Passes.{IsLone, IsSoundPass}
use Rattle.sidecar_objects.specs.Pass.{cells_of}
use Rattle.sidecar_serving.specs.declared.end.End.{End}
use Rattle.sidecar_serving.specs.declared.end.End.TheVariants as ended
use Rattle.sidecar_serving.specs.Ending.{end_of}
use Rattle.sidecar_serving.specs.Met.{AreMet, HubAt, hub_at, failed_in, reason_in, spent_in, stopped_in}
use Rattle.sidecar_serving.specs.Opened.{AreWorkers, HasWorked, IsAskedUpTo, IsOpened, WorkerAt, worker_calls}
use Rattle.sidecar_serving.specs.Passes.{root_pass}

-- Workers that had these random words were opened, and all have been met. The pass of the root seats has then seen all that they did: each history is legal, and has the steps
-- of each worker once, in order
pub record WereMet {O : Type 0} (config : Config) (kinds : Kinds O) (cells : CellsAt O) (words : List Stream) (workers : List (WorkerAt O)) (at after : HubAt O) : Type 0 where
  pub each : AreWorkers (HasWorked config kinds cells) 0 words workers
  pub met : AreMet kinds cells workers (record at { seats = root_pass (length workers) cells }) after
  pub lone : IsLone cells after.seats
  pub sound : 0 < length workers → IsSoundPass kinds cells after.seats

-- no worker could be opened any more
abbrev pub IsUnopened : End → Type 0
IsUnopened end = (end ≡ ended.OutsideFailed) ⊎ (end ≡ ended.NoMemory)

-- Serving by so many workers as there are streams of random words, with the calls that asked the outside for their parts. All were opened, ran until each ended, and were met; where one was
-- stopped, another had a reason. Or the outside had no parts for one, or there was no memory: then no further one was asked for, and none ran
pub data IsServed {O : Type 0} (config : Config) (kinds : Kinds O) (cells : CellsAt O) (port : ℕ) (words : List Stream) (calls calls' : Option (List OutsideCall)) (at after : HubAt O) (end : End) : Type 0 where
  went : (workers : List (WorkerAt O)) → length workers ≡ length words → WereMet config kinds cells words workers at after → All (λ w. IsSome w.ended) workers → (stopped_in workers ≡ true → reason_in workers ≡ true)
      → Tells calls calls' (worker_calls port (length words)) → end ≡ end_of (spent_in workers) (failed_in workers) → IsServed config kinds cells port words calls calls' at after end
  unopened : (workers : List (WorkerAt O)) (asked : ℕ) (between : HubAt O) → length workers ≤ length words → IsAskedUpTo (length words) (length workers) asked → WereMet config kinds cells words workers between after
      → AreWorkers (IsOpened cells) 0 words workers
      → Tells calls calls' (worker_calls port asked) → (end ≡ ended.OutsideFailed → Rose at.faults after.faults) → IsUnopened end → IsServed config kinds cells port words calls calls' at after end

-- the same over the shared objects, with workers that have these generators of random words
abbrev pub ServesBy : {K R O D A L C S N : Type 0} {keeper : Ghosts K} → Kinds (Store K keeper) → Lends O D A L C S N → (R → Stream) → Shared K keeper → ℕ → List R → Pass K keeper → Pass K keeper → O → O → End → Type 0
ServesBy kinds lends stream shared port rngs pass pass' outside outside' end =
    IsServed shared.config kinds (cells_of shared.objects) port (map stream rngs) (lends.calls outside) (lends.calls outside') (hub_at lends pass outside) (hub_at lends pass' outside') end
