-- Why a drill ended with its status.
use Rattle.std.specs.Prelude.{◌≡◌, ℕ, List, [], Option, Some, None}
use Rattle.side_world.specs.declared.disk.Disk.{Ghosts as Keeps}
use Rattle.rand_core.specs.Stream.{Stream}
use Rattle.keeper_core.specs.declared.keeper.Keeper.{Ghosts}
use Rattle.keeper_journal.specs.declared.any_keeper.AnyKeeper.{AnyKeeper}
use Rattle.state_core.specs.declared.store.Store.{Store}
use Rattle.conn_serve.specs.declared.ended.Ended.{Ended}
use Rattle.conn_serve.specs.declared.ended.Ended.TheVariants as ends
use Rattle.sidecar_core.specs.declared.config.Config.{Config}
use Rattle.sidecar_objects.specs.declared.objects.Objects.{Objects}
use Rattle.sidecar_objects.specs.declared.objects.Pass.{Pass}
use Rattle.sidecar_objects.specs.Passes.{IsLone, IsSoundPass}
use Rattle.sidecar_objects.specs.Kind.{Kinds, SeatsAt}
use Rattle.sidecar_objects.specs.Pass.{cells_of, seats_of}
use Rattle.sidecar_objects.specs.Shown.{spent_of}
use Rattle.sidecar_words.specs.declared.given.Words.{Words}
use Rattle.sidecar_cli.specs.Causes.{HasFault, IsFull}
use Rattle.sidecar_cli.specs.Drill.{IsPrepared, IsServedByDrill, IsToldOf}
use Rattle.sidecar_cli.specs.World.{WorldAt}
use Rattle.sidecar_cli.specs.declared.status.Status.{Status}
use Rattle.sidecar_cli.specs.declared.status.Status.TheVariants as status
use Rattle.sidecar_cli.specs.declared.status.Input.TheVariants.{Cut, Refused}
use Rattle.sidecar_cli.specs.declared.status.Device.TheVariants.{Source, Sink, Files, Disk, Acceptor, Outside, Link}

-- it ended between two requests, or with one that asked for it
abbrev pub EndsBetween : Ended → Type 0
EndsBetween ends.Done = Unit {0}
EndsBetween ends.Closed = Unit {0}
EndsBetween ends.Asked = Unit {0}
EndsBetween _ = ⊥

module _ {D : Type 0} {disking : Keeps D} {keeping : Ghosts (AnyKeeper D disking)} (kinds : Kinds (Store (AnyKeeper D disking) keeping)) (start requests : ℕ) where
  -- the requests of the drill were served over objects that had just begun: the session wrote this, and ended so, and this is the first count that a seat of the pass shows behind it
  pub record HasDrill (given : Words) (out : List ℕ) (ended : Ended) (spent : Option ℕ) : Type 0 where
    pub words_of : ℕ → Stream
    pub config : Config
    pub bytes : List ℕ
    pub prepared : IsPrepared words_of given.app start requests config bytes
    pub objects : Objects (AnyKeeper D disking) keeping
    pub pass : Pass (AnyKeeper D disking) keeping
    pub after : Pass (AnyKeeper D disking) keeping
    pub words : Stream
    pub faults : ℕ
    pub lone : IsLone (cells_of objects) (seats_of pass)
    pub sound : IsSoundPass kinds (cells_of objects) (seats_of pass)
    pub served : IsServedByDrill kinds config objects pass after bytes words (record { contents = Some []; faults = 0 }) (record { contents = Some out; faults = faults }) ended
    pub spent_is : spent ≡ spent_of (seats_of after)

  -- the session ended between two requests, or with one that asked for it, and the line was sent that tells the responses that it wrote
  pub record IsDrillDone (given : Words) (world world' : WorldAt) : Type 0 where
    pub out : List ℕ
    pub ended : Ended
    pub drill : HasDrill given out ended None
    pub well : EndsBetween ended
    pub told : IsToldOf requests out world.sink world'.sink status.Ok

  -- a cell was exhausted: the seats of the session's pass behind it are sound and alone, and one of them shows this count and has seen 2^62 entries
  pub record IsSpentInDrill (given : Words) (count : ℕ) : Type 0 where
    pub out : List ℕ
    pub ended : Ended
    pub spent : Option ℕ
    pub drill : HasDrill given out ended spent
    pub lone : IsLone (cells_of drill.objects) (seats_of drill.after)
    pub sound : IsSoundPass kinds (cells_of drill.objects) (seats_of drill.after)
    pub full : IsFull (seats_of drill.after) count

  -- Why a drill ends so. No file is read and no disk taken, and its own source doesn't fail; for want of memory there is no cause
  abbrev pub IsWhyOfDrill : Words → WorldAt → WorldAt → Status → Type 0
  IsWhyOfDrill given world world' status.Ok = IsDrillDone given world world'
  IsWhyOfDrill given world world' (status.BadInput Cut) = (out : List ℕ) × HasDrill given out ends.ClosedByPeer None
  IsWhyOfDrill given world world' (status.BadInput (Refused why)) = (out : List ℕ) × HasDrill given out (ends.Refused why) None
  IsWhyOfDrill given world world' status.Usage = ⊥
  IsWhyOfDrill given world world' (status.BadResources text) = ⊥
  IsWhyOfDrill given world world' (status.OutsideFailed Source) = ⊥
  IsWhyOfDrill given world world' (status.OutsideFailed Sink) = HasFault Sink world world'
  IsWhyOfDrill given world world' (status.OutsideFailed Files) = ⊥
  IsWhyOfDrill given world world' (status.OutsideFailed Disk) = ⊥
  IsWhyOfDrill given world world' (status.OutsideFailed Acceptor) = ⊥
  IsWhyOfDrill given world world' (status.OutsideFailed Outside) = ⊥
  IsWhyOfDrill given world world' (status.OutsideFailed Link) = ⊥
  IsWhyOfDrill given world world' status.NoMemory = Unit {0}
  IsWhyOfDrill given world world' status.Limit = (out : List ℕ) × HasDrill given out ends.Limit None
  IsWhyOfDrill given world world' (status.Spent count) = IsSpentInDrill given count
