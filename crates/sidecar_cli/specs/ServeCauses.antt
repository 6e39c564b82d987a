-- Why a run that serves on a port ended with its status.
use Rattle.std.specs.Prelude.{◌≡◌, ◌⊎◌, ℕ, List, ◌∷◌, ◌++◌, length, All, Option, Some, None, IsSome}
use Rattle.std.specs.Option.{option_or}
use Rattle.side_world.specs.declared.disk.Disk.{Ghosts as Keeps}
use Rattle.side_world.specs.Answer.{failed}
use Rattle.side_world.specs.Faults.{Rose}
use Rattle.rand_core.specs.Stream.{Stream}
use Rattle.keeper_core.specs.declared.keeper.Keeper.{Ghosts}
use Rattle.keeper_journal.specs.declared.any_keeper.AnyKeeper.{AnyKeeper}
use Rattle.state_core.specs.declared.store.Store.{Store}
use Rattle.sidecar_core.specs.declared.config.Config.{Config}
use Rattle.sidecar_objects.specs.declared.objects.Objects.{Objects}
use Rattle.sidecar_objects.specs.declared.objects.Pass.{Pass}
use Rattle.sidecar_objects.specs.Passes.{IsLone, IsSoundPass}
use Rattle.sidecar_objects.specs.Kind.{Kinds, SeatsAt}
use Rattle.sidecar_objects.specs.Shown.{spent_of}
use Rattle.sidecar_objects.specs.Pass.{cells_of, seats_of}
use Rattle.sidecar_core.specs.Started.{IsStarted}
use Rattle.sidecar_workers.specs.declared.exit.Exit.{Exit}
use Rattle.sidecar_workers.specs.declared.exit.Exit.TheVariants as exits
use Rattle.sidecar_serving.specs.Met.{AreMet, HubAt, IsMet}
use Rattle.sidecar_serving.specs.Opened.{WorkerAt}
use Rattle.sidecar_serving.specs.Passes.{root_pass}
use Rattle.sidecar_serving.specs.Served.{WereMet}
use Rattle.sidecar_serving.specs.Worker.{EndsWith}
use Rattle.sidecar_words.specs.declared.given.Words.{Words}
use Rattle.sidecar_cli.specs.Causes.{HasFault, IsFileRefused, IsFull, IsJournalRefused, IsListRefused, IsUntouched}
use Rattle.sidecar_cli.specs.Counting.{IsTold}
use Rattle.sidecar_cli.specs.World.{OutsideAt, WorldAt}
use Rattle.sidecar_cli.specs.declared.status.Status.{Status}
use Rattle.sidecar_cli.specs.declared.status.Status.TheVariants as status
use Rattle.sidecar_cli.specs.declared.status.Device.TheVariants.{Acceptor, Disk, Files, Link, Outside, Sink, Source}

-- a count of faults rose, and it may have risen again behind that
abbrev pub RoseOnce : ℕ → ℕ → Type 0
RoseOnce before after = (between : ℕ) × Rose before between × ((after ≡ between) ⊎ Rose between after)

-- a worker was asked to end, or others ended it, or its acceptor had closed
abbrev pub IsWellEnded : Option Exit → Type 0
IsWellEnded None = ⊥
IsWellEnded (Some exits.Asked) = Unit {0}
IsWellEnded (Some exits.Stopped) = Unit {0}
IsWellEnded (Some exits.Closed) = Unit {0}
IsWellEnded (Some exits.Failed) = ⊥
IsWellEnded (Some (exits.Spent count)) = ⊥

-- one of these workers
pub record IsAmong {O : Type 0} (w : WorkerAt O) (workers : List (WorkerAt O)) : Type 0 where
  pub before : List (WorkerAt O)
  pub behind : List (WorkerAt O)
  pub whole : workers ≡ before ++ w ∷ behind

module _ {D : Type 0} {disking : Keeps D} {keeping : Ghosts (AnyKeeper D disking)} (kinds : Kinds (Store (AnyKeeper D disking) keeping)) where
  -- what a pass shows, and what the outside has of workers
  abbrev pub hub_of : SeatsAt (Store (AnyKeeper D disking) keeping) → OutsideAt → HubAt (Store (AnyKeeper D disking) keeping)
  hub_of seats outside = record { seats = seats; backs = outside.backs; faults = outside.faults }

  -- Workers were opened over objects that had just begun; each ran until it ended, and was met; and the ledgers were counted behind them: this is the first
  -- count that a seat of the pass shows that met them, or else what was read of the first exhausted cell of a ledger, if there is one
  pub record HasServing (world world' : WorldAt) (spent : Option ℕ) : Type 0 where
    pub config : Config
    pub keepers : List (AnyKeeper D disking)
    pub start : ℕ
    pub objects : Objects (AnyKeeper D disking) keeping
    pub pass : Pass (AnyKeeper D disking) keeping
    pub after : Pass (AnyKeeper D disking) keeping
    pub last : Pass (AnyKeeper D disking) keeping
    pub words : List Stream
    pub started : OutsideAt
    pub over : OutsideAt
    pub workers : List (WorkerAt (Store (AnyKeeper D disking) keeping))
    pub begun : IsStarted config keepers start config objects pass
    pub wide : length workers ≡ length words
    pub met : WereMet config kinds (cells_of objects) words workers (hub_of (seats_of pass) started) (hub_of (seats_of after) over)
    pub ended : All (λ w. IsSome w.ended) workers
    pub sound : IsSoundPass kinds (cells_of objects) (seats_of after)
    pub counted : Option ℕ
    pub told : IsTold kinds (cells_of objects) config.components (seats_of after) (seats_of last) world.note world'.note counted
    pub spent_is : spent ≡ option_or (spent_of (seats_of after)) counted

  -- the acceptor of a worker failed, with its last answer, and as it came back the outside's count of faults rose
  pub record HasFailedAcceptor (world world' : WorldAt) : Type 0 where
    pub serving : HasServing world world' None
    pub worker : WorkerAt (Store (AnyKeeper D disking) keeping)
    pub among : IsAmong worker serving.workers
    pub ended : worker.ended ≡ Some exits.Failed
    pub answered : EndsWith failed worker.reached.told
    pub at : HubAt (Store (AnyKeeper D disking) keeping)
    pub after : HubAt (Store (AnyKeeper D disking) keeping)
    pub first : AreMet kinds (cells_of serving.objects) among.behind (hub_of (root_pass (length serving.workers) (cells_of serving.objects)) serving.started) at
    pub back : IsMet kinds (cells_of serving.objects) worker at after
    pub later : AreMet kinds (cells_of serving.objects) among.before after (hub_of (seats_of serving.after) serving.over)
    pub rose : Rose at.faults after.faults

  -- this count was read by a worker that it ended, or it is shown behind all workers or was read as the ledgers were counted
  pub data IsRead (world world' : WorldAt) {spent : Option ℕ} (serving : HasServing world world' spent) (count : ℕ) : Type 0 where
    working : (w : WorkerAt (Store (AnyKeeper D disking) keeping)) → IsAmong w serving.workers → w.ended ≡ Some (exits.Spent count) → IsRead world world' serving count
    counting : spent ≡ Some count → IsRead world world' serving count

  -- a cell was exhausted: the seats of the pass that met all workers are sound and alone, and one of them shows a count and has seen 2^62 entries
  pub record IsSpentInServing (world world' : WorldAt) (count : ℕ) : Type 0 where
    pub spent : Option ℕ
    pub serving : HasServing world world' spent
    pub read : IsRead world world' serving count
    pub seats : SeatsAt (Store (AnyKeeper D disking) keeping)
    pub lone : IsLone (cells_of serving.objects) seats
    pub sound : IsSoundPass kinds (cells_of serving.objects) seats
    pub shown : ℕ
    pub full : IsFull seats shown

  -- Why a run that serves ends so. Nothing is read from standard input or written to standard output; for want of memory there is no cause
  abbrev pub IsWhyOfServing : Words → WorldAt → WorldAt → Status → Type 0
  IsWhyOfServing given world world' status.Ok = (serving : HasServing world world' None) × All (λ w. IsWellEnded w.ended) serving.workers
  IsWhyOfServing given world world' (status.BadInput input) = ⊥
  IsWhyOfServing given world world' status.Usage = ⊥
  IsWhyOfServing given world world' (status.BadResources text) = IsFileRefused given world.files world'.files text ⊎ (IsJournalRefused disking given world world' text ⊎ IsListRefused given world world' text)
  IsWhyOfServing given world world' (status.OutsideFailed Source) = ⊥
  IsWhyOfServing given world world' (status.OutsideFailed Sink) = ⊥
  IsWhyOfServing given world world' (status.OutsideFailed Files) = HasFault Files world world'
  IsWhyOfServing given world world' (status.OutsideFailed Disk) = HasFault Disk world world'
  IsWhyOfServing given world world' (status.OutsideFailed Acceptor) = HasFailedAcceptor world world'
  IsWhyOfServing given world world' (status.OutsideFailed Outside) = RoseOnce world.outside.faults world'.outside.faults × IsUntouched world world'
  IsWhyOfServing given world world' (status.OutsideFailed Link) = HasFault Link world world'
  IsWhyOfServing given world world' status.NoMemory = Unit {0}
  IsWhyOfServing given world world' status.Limit = ⊥
  IsWhyOfServing given world world' (status.Spent count) = IsSpentInServing world world' count

  -- nothing is refused, no device and no acceptor fails, and no cell is exhausted
  pub record AllIsWellOfServing (given : Words) (world world' : WorldAt) : Type 0 where
    pub files : (text : List ℕ) → ¬ IsFileRefused given world.files world'.files text
    pub journals : (text : List ℕ) → ¬ IsJournalRefused disking given world world' text
    pub lists : (text : List ℕ) → ¬ IsListRefused given world world' text
    pub read : ¬ HasFault Files world world'
    pub disks : ¬ HasFault Disk world world'
    pub app : ¬ HasFault Link world world'
    pub outside : ¬ RoseOnce world.outside.faults world'.outside.faults
    pub acceptors : ¬ HasFailedAcceptor world world'
    pub fresh : (count : ℕ) → ¬ IsSpentInServing world world' count

  -- where this is so the status is 0, or there was no memory
  abbrev pub ServesWellWhereAllIsWell : Words → WorldAt → WorldAt → Status → Type 0
  ServesWellWhereAllIsWell given world world' end = AllIsWellOfServing given world world' → (end ≡ status.Ok) ⊎ (end ≡ status.NoMemory)
