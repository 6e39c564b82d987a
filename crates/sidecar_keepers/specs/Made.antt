-- Keepers as a start makes them, over the disks that are told before it and after it.
use Rattle.std.specs.Prelude.{◌≡◌, ◌≢◌, ℕ, List, [], ◌∷◌, ◌++◌, Option, Some, None}
use Rattle.std.specs.FinMap.{empty}
use Rattle.std.specs.List.{All}
use Rattle.side_world.specs.declared.disk.Disk.{Ghosts}
use Rattle.side_world.specs.Outside.{Disks, IsNewDisk, IsTaken}
use Rattle.keeper_core.specs.declared.changes.Changes.{Changes}
use Rattle.keeper_core.specs.declared.memory_keeper.MemoryKeeper.{MemoryKeeper}
use Rattle.keeper_core.specs.Table.{fed}
use Rattle.keeper_core.specs.MemoryKeeper.{rows_in, next_of, limit_of, faults_of, failing_of, commits_of}
use Rattle.disk_journal.specs.Moments.{Reads, ChangesNothing}
use Rattle.keeper_journal.specs.AnyKeeper.{any_hasher}
use Rattle.keeper_journal.specs.History.{IsHistory}
use Rattle.keeper_journal.specs.JournalKeeper.{disk_in, limit_in}
use Rattle.keeper_journal.specs.Kept.{Kept}
use Rattle.keeper_journal.specs.declared.journal_keeper.JournalKeeper.{JournalKeeper}
use Rattle.keeper_journal.specs.declared.any_keeper.AnyKeeper.{AnyKeeper}
use Rattle.keeper_journal.specs.declared.any_keeper.AnyKeeper.TheVariants.{Memory, Journal}
use Rattle.resource_spec.specs.declared.component.ComponentKind.TheVariants.{StateMemory, StateJournal}
use Rattle.resource_spec.specs.Component.{Loaded}
use Rattle.resource_spec.specs.Load.{journal_of}

-- the keys of each keeper are fed to std's hasher behind these secret bytes
abbrev pub HashBehind : {D : Type 0} {disking : Ghosts D} → List ℕ → List (AnyKeeper D disking) → Type 0
HashBehind secret keepers = All (λ keeper. any_hasher keeper ≡ fed secret) keepers

-- a keeper in memory that has no rows: its limit is 256 MiB, and no commit of it is to fail
pub record IsNewInMemory (keeper : MemoryKeeper) : Type 0 where
  pub rows : rows_in keeper ≡ empty
  pub next : next_of keeper ≡ 1
  pub limit : limit_of keeper ≡ 268435456
  pub failing : failing_of keeper ≡ []
  pub commits : commits_of keeper ≡ 0
  pub faults : faults_of keeper ≡ 0

module _ {D : Type 0} (disking : Ghosts D) where
  -- a keeper over a journal that was opened on this disk and keeps these commits: none where the disk has no bytes, and else those that
  -- its bytes say, which opening leaves as they are; its limit is 384 MiB
  pub record IsOpenedOn (disk : D) (keeper : JournalKeeper D disking) (commits : List Changes) : Type 0 where
    pub kept : Kept disking keeper commits None
    pub bare : disking.size disk ≡ 0 → commits ≡ []
    pub read : disking.size disk ≢ 0 → Reads disking disk (λ bytes. IsHistory bytes commits)
    pub unchanged : disking.size disk ≢ 0 → ChangesNothing disking disk (disk_in keeper)
    pub limit : limit_in keeper ≡ 402653184
    pub no_faults : disking.faults (disk_in keeper) ≡ 0

  -- the disk at the path of a journal was taken, and its keeper was opened on it
  pub record IsOpened (c : Loaded) (keeper : JournalKeeper D disking) (before after : Option Disks) : Type 0 where
    pub kind : c.kind ≡ StateJournal
    pub path : List ℕ
    pub named : journal_of c ≡ Some path
    pub disk : D
    pub new : IsNewDisk disking disk
    pub taken : IsTaken disking disk path before after
    pub commits : List Changes
    pub opened : IsOpenedOn disk keeper commits

  -- the keeper of a component was made: one in memory takes no disk
  abbrev pub IsMade : Loaded → AnyKeeper D disking → Option Disks → Option Disks → Type 0
  IsMade c (Memory keeper) before after = (c.kind ≡ StateMemory) × IsNewInMemory keeper × (after ≡ before)
  IsMade c (Journal keeper) before after = IsOpened c keeper before after

  -- a keeper of each component was made, in order
  abbrev pub AreMade : List Loaded → List (AnyKeeper D disking) → Option Disks → Option Disks → Type 0
  AreMade [] [] before after = after ≡ before
  AreMade (c ∷ stores) (keeper ∷ keepers) before after = (mid : Option Disks) × IsMade c keeper before mid × AreMade stores keepers mid after
  AreMade [] (keeper ∷ keepers) before after = ⊥
  AreMade (c ∷ stores) [] before after = ⊥

  -- behind the keepers that were there stands one of each of these components, made in order
  abbrev pub HasMadeMore : List Loaded → List (AnyKeeper D disking) → List (AnyKeeper D disking) → Option Disks → Option Disks → Type 0
  HasMadeMore stores keepers keepers' before after = (added : List (AnyKeeper D disking)) × (keepers' ≡ keepers ++ added) × AreMade stores added before after
