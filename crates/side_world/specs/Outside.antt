-- What the whole outside keeps: the disks that it holds, and what came back of each worker.
use Rattle.std.specs.Prelude.{◌≡◌, ◌≢◌, ℕ, List, [], length, Option, Some, None}
use Rattle.side_world.specs.declared.acceptor.Acceptor.{Ghosts as Accepts}
use Rattle.side_world.specs.declared.disk.Disk.{Ghosts as Keeps}
use Rattle.side_world.specs.declared.link.Link.{Ghosts as Asks}
use Rattle.side_world.specs.declared.link.LinkCall.{LinkCall}
use Rattle.side_world.specs.declared.outside.WorkerParts.{WorkerParts}
use Rattle.side_world.specs.Answer.{Answer}
use Rattle.side_world.specs.Disk.{LeavesOnly}
use Rattle.side_world.specs.Told.{IsFresh}

-- the bytes of each disk that is there and not taken, by its path
abbrev pub Disks : Type 0
Disks = List ℕ → Option (List ℕ)

-- where the disks are told afterwards, they were told before, and changed at this path alone
abbrev pub ChangesAt : List ℕ → Option Disks → Option Disks → (Option (List ℕ) → Option (List ℕ) → Type 0) → Type 0
ChangesAt path before after change =
    (disks' : Disks) → after ≡ Some disks'
    → (disks : Disks) × (before ≡ Some disks) × change (disks path) (disks' path) × ((other : List ℕ) → other ≢ path → disks' other ≡ disks other)

-- what an absent disk holds: nothing
abbrev pub bytes_or_none : Option (List ℕ) → List ℕ
bytes_or_none None = []
bytes_or_none (Some bytes) = bytes

module _ {D : Type 0} (keeps : Keeps D) where
  -- a disk that hasn't failed, of which a crash leaves what a read gives
  pub record IsNewDisk (disk : D) : Type 0 where
    pub no_faults : keeps.faults disk ≡ 0
    pub synced : LeavesOnly (keeps.contents disk) (keeps.leaves disk)

  -- where both are told, the disk that was taken has what was held at its path, or nothing, and its length; and nothing is held there then
  abbrev pub IsTaken : D → List ℕ → Option Disks → Option Disks → Type 0
  IsTaken disk path before after =
      ChangesAt path before after (λ held held'. (held' ≡ None) × (keeps.size disk ≡ length (bytes_or_none held)) × ((bytes : List ℕ) → keeps.contents disk ≡ Some bytes → bytes ≡ bytes_or_none held))

  -- where they are told, what is held at the path are the contents of the disk that came back
  abbrev pub IsGiven : D → List ℕ → Option Disks → Option Disks → Type 0
  IsGiven disk path before after =
      ChangesAt path before after (λ held held'. (bytes : List ℕ) × (keeps.contents disk ≡ Some bytes) × (held' ≡ Some bytes))

-- what the acceptor and the link of a worker told when they came back
pub record CameBack : Type 0 where
  pub answers : Option (List Answer)
  pub calls : Option (List LinkCall)

-- what came back of each worker, by its number
abbrev pub Backs : Type 0
Backs = ℕ → Option CameBack

module _ {A S N L C : Type 0} (accepts : Accepts A S N) (asks : Asks L) where
  -- the parts of a worker which have no faults, and tell no answers and no calls yet
  pub record AreNew (parts : WorkerParts A L C) : Type 0 where
    pub no_faults : accepts.faults parts.acceptor ≡ 0
    pub no_link_faults : asks.faults parts.link ≡ 0
    pub no_expiries : asks.expiries parts.link ≡ 0
    pub no_answers : IsFresh (accepts.told parts.acceptor)
    pub no_calls : IsFresh (asks.calls parts.link)

  -- where it is told afterwards what came back, it was told before, and changed at this number alone: these parts came back
  abbrev pub IsBack : ℕ → WorkerParts A L C → Option Backs → Option Backs → Type 0
  IsBack number parts before after =
      (backs' : Backs) → after ≡ Some backs'
      → (backs : Backs) × (before ≡ Some backs)
      × (backs' number ≡ Some (record { answers = accepts.told parts.acceptor; calls = asks.calls parts.link }))
      × ((other : ℕ) → other ≢ number → backs' other ≡ backs other)
