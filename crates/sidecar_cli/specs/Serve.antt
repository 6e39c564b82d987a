-- A run that serves on a port: the random numbers, the resources, the keepers, the list of the app, the start, the workers, and how it ends.
use Rattle.std.specs.Prelude.{◌≡◌, ℕ, List, [], ◌∷◌, ◌++◌, length, map, Option, Some, None, Ok, Err}
use Rattle.std.specs.Option.{option_or}
use Rattle.side_world.specs.declared.disk.Disk.{Ghosts as Keeps}
use Rattle.side_world.specs.Told.{Tells}
use Rattle.rand_core.specs.Stream.{Stream}
use Rattle.keeper_core.specs.declared.keeper.Keeper.{Ghosts}
use Rattle.keeper_journal.specs.declared.any_keeper.AnyKeeper.{AnyKeeper}
use Rattle.state_core.specs.declared.store.Store.{Store}
use Rattle.conn_serve.specs.Ends.{SinkAt}
use Rattle.resource_files.specs.declared.resources.Resources.{Resources}
use Rattle.resource_files.specs.declared.resources.ResourcesErr.{ResourcesErr}
use Rattle.sidecar_core.specs.declared.config.Config.{Config}
use Rattle.sidecar_objects.specs.declared.objects.Objects.{Objects}
use Rattle.sidecar_objects.specs.declared.objects.Pass.{Pass}
use Rattle.sidecar_objects.specs.Kind.{Kinds}
use Rattle.sidecar_objects.specs.Pass.{cells_of, seats_of}
use Rattle.sidecar_serving.specs.declared.end.End.{End}
use Rattle.sidecar_serving.specs.declared.end.End.TheVariants as ended
use Rattle.sidecar_serving.specs.Served.{IsServed}
use Rattle.sidecar_words.specs.declared.given.Words.{Words}
use Rattle.sidecar_cli.specs.Configured.{IsConfiguredFor, Says}
use Rattle.sidecar_cli.specs.Play.{IsClosed, IsConfiguredBy, IsDownBeside, IsFinished, IsUpNow}
use Rattle.sidecar_cli.specs.Status.{spent_or}
use Rattle.sidecar_cli.specs.World.{OutsideAt, WorldAt, beside_of, secret_of}
use Rattle.sidecar_cli.specs.declared.status.Status.{Status}
use Rattle.sidecar_cli.specs.declared.status.Status.TheVariants as ends
use Rattle.sidecar_cli.specs.declared.status.Device.TheVariants.{Acceptor, Outside}

-- how a run ends whose workers were not opened; none where they were
abbrev pub refusal_of : End → Option Status
refusal_of ended.Done = None
refusal_of ended.AcceptorFailed = None
refusal_of (ended.Spent count) = None
refusal_of ended.OutsideFailed = Some (ends.OutsideFailed Outside)
refusal_of ended.NoMemory = Some ends.NoMemory

-- what was read in the cell that ended serving
abbrev pub spent_at : End → Option ℕ
spent_at (ended.Spent count) = Some count
spent_at ended.Done = None
spent_at ended.AcceptorFailed = None
spent_at ended.OutsideFailed = None
spent_at ended.NoMemory = None

-- how a run ends whose workers ended so
abbrev pub status_at : End → Status
status_at ended.Done = ends.Ok
status_at ended.AcceptorFailed = ends.OutsideFailed Acceptor
status_at (ended.Spent count) = ends.Spent count
status_at ended.OutsideFailed = ends.OutsideFailed Outside
status_at ended.NoMemory = ends.NoMemory

-- and then what was read in the first exhausted cell of a ledger, if there is one
abbrev pub status_after_serving : End → Option ℕ → Status
status_after_serving end spent = spent_or (option_or (spent_at end) spent) (status_at end)

-- A number was asked for each of so many streams of random words, in order, and two more behind them, of which the secret is
abbrev pub AsksForStreams : (ℕ → Stream) → ℕ → List Stream → List ℕ → Option (List ℕ) → Option (List ℕ) → Type 0
AsksForStreams words_of count streams secret numbers numbers' =
    (seeds : List ℕ) × (one : ℕ) × (other : ℕ) × (length seeds ≡ count) × (streams ≡ map words_of seeds) × Tells numbers numbers' (seeds ++ one ∷ other ∷ []) × (secret ≡ secret_of one other)

module _ {D : Type 0} {disking : Keeps D} {keeping : Ghosts (AnyKeeper D disking)} (kinds : Kinds (Store (AnyKeeper D disking) keeping)) where
  -- workers were opened over these objects, ran and were met, with one stream of random words each; the disks and the numbers of the outside were left
  pub record IsPortServed (config : Config) (objects : Objects (AnyKeeper D disking) keeping) (pass after : Pass (AnyKeeper D disking) keeping) (port : ℕ) (words : List Stream) (outside outside' : OutsideAt) (end : End) : Type 0 where
    pub served : IsServed config kinds (cells_of objects) port words outside.calls outside'.calls (record { seats = seats_of pass; backs = outside.backs; faults = outside.faults }) (record { seats = seats_of after; backs = outside'.backs; faults = outside'.faults }) end
    pub disks : outside'.disks ≡ outside.disks
    pub numbers : outside'.numbers ≡ outside.numbers

  -- Serving over objects that were just started, by their pass; then all was counted, told and closed. Where a worker was not opened, all was closed, and nothing told
  pub data IsServing (config : Config) (objects : Objects (AnyKeeper D disking) keeping) (pass : Pass (AnyKeeper D disking) keeping) (port : ℕ) (words : List Stream) (note note' : SinkAt) (outside outside' : OutsideAt) (status : Status) : Type 0 where
    went : (after : Pass (AnyKeeper D disking) keeping) (between : OutsideAt) (end : End) (spent : Option ℕ) → IsPortServed config objects pass after port words outside between end → refusal_of end ≡ None
        → IsFinished kinds config objects after note note' between outside' spent → status ≡ status_after_serving end spent → IsServing config objects pass port words note note' outside outside' status
    unopened : (after : Pass (AnyKeeper D disking) keeping) (between : OutsideAt) (end : End) → IsPortServed config objects pass after port words outside between end → refusal_of end ≡ Some status
        → IsClosed kinds config objects after between outside' → note' ≡ note → IsServing config objects pass port words note note' outside outside' status

  -- all objects were started, and then they were served; or they were not
  pub data IsKeptServing (given : Words) (resources : Resources) (words : List Stream) (world world' : WorldAt) (status : Status) : Type 0 where
    down : IsDownBeside disking given resources (beside_of world) (beside_of world') status → world' ≡ record world { outside = world'.outside; link = world'.link; clock = world'.clock } → IsKeptServing given resources words world world' status
    up : (config : Config) (objects : Objects (AnyKeeper D disking) keeping) (pass : Pass (AnyKeeper D disking) keeping) (between : WorldAt) → IsConfiguredBy given resources world.link between.link config → IsUpNow kinds config (beside_of world) (beside_of between) objects pass
        → between ≡ record world { outside = between.outside; link = between.link; clock = between.clock } → IsServing config objects pass given.port words between.note world'.note between.outside world'.outside status
        → world' ≡ record between { note = world'.note; outside = world'.outside } → IsKeptServing given resources words world world' status

  -- the resources were read, and then all objects were started; or they were refused, and nothing else was done
  pub data IsBegunServing (given : Words) (words : List Stream) (world world' : WorldAt) (status : Status) : Type 0 where
    refused : (e : ResourcesErr) → IsConfiguredFor given world.files world'.files (Err e) → Says e status → world' ≡ record world { files = world'.files } → IsBegunServing given words world world' status
    read : (resources : Resources) (between : WorldAt) → IsConfiguredFor given world.files between.files (Ok resources) → between ≡ record world { files = between.files }
        → IsKeptServing given resources words between world' status → IsBegunServing given words world world' status

  -- a number was asked for the random words of each worker, in order, and two for the secret bytes; or there was no memory, and none was asked for
  pub data IsServe (words_of : ℕ → Stream) (given : Words) (world world' : WorldAt) (status : Status) : Type 0 where
    asked : (seeds : List ℕ) (one other : ℕ) (between : WorldAt) → length seeds ≡ given.workers → Tells world.outside.numbers between.outside.numbers (seeds ++ one ∷ other ∷ []) → between ≡ record world { outside = record world.outside { numbers = between.outside.numbers } }
        → IsBegunServing given (map words_of seeds) between world' status → IsServe words_of given world world' status
    lacks : status ≡ ends.NoMemory → world' ≡ world → IsServe words_of given world world' status
