-- What contracts say of the whole outside in memory.
use Rattle.std.specs.Prelude.{◌≡◌, ◌≢◌, ◌⊎◌, ◌<◌, ℕ, zero, suc, if◌then◌else◌, List, [], ◌∷◌, length, map, bytes_eq, slice_index_or, Option, Some, None, option_map}
use Rattle.side_world.specs.declared.outside.WorkerParts.{WorkerParts}
use Rattle.side_world.specs.declared.outside.OutsideCall.{OutsideCall}
use Rattle.side_world.specs.Outside.{Disks, Backs, CameBack}
use Rattle.disk_memory.specs.Plan.{Plan, plan_in, FailsNext}
use Rattle.side_memory.specs.MemoryAcceptor.{AcceptorState, told_of}
use Rattle.side_memory.specs.MemoryLink.{LinkState}
use Rattle.side_memory.specs.MemoryClock.{ClockState}
use Rattle.disk_memory.specs.MemoryDisk.{bytes_of}
use Rattle.side_memory.specs.declared.disk_places.DiskPlace.{DiskPlace}
use Rattle.side_memory.specs.Scripts.{IsAt, IsBegun}
use Rattle.side_memory.specs.declared.worker_script.WorkerScript.{WorkerScript}
use Rattle.side_memory.specs.declared.memory_outside.MemoryOutside.{MemoryOutside}

module _ {X : Type 0} (part : DiskPlace → X) (none : X) where
  -- a part of the first disk of a path
  abbrev pub part_at : List DiskPlace → List ℕ → X
  part_at [] path = none
  part_at (place ∷ places) path = if bytes_eq place.path path then part place else part_at places path

-- what is held at a path: the bytes of the first disk of that path, where it is not taken
abbrev pub held_at : List DiskPlace → List ℕ → Option (List ℕ)
held_at = part_at (λ (place : DiskPlace). option_map bytes_of place.disk) None

-- the calls of the disk at a path that are to fail once it is taken
abbrev pub failing_at : List DiskPlace → List ℕ → List ℕ
failing_at = part_at (λ (place : DiskPlace). place.failing) []

-- the place of the first disk of a path, where there is one
abbrev pub IsPlaceOf : List DiskPlace → List ℕ → Option ℕ → Type 0
IsPlaceOf places path None = (k : ℕ) (d : DiskPlace) → k < length places → (slice_index_or places k d).path ≢ path
IsPlaceOf places path (Some i) =
    (i < length places) × ((d : DiskPlace) → (slice_index_or places i d).path ≡ path)
    × ((k : ℕ) (d : DiskPlace) → k < i → (slice_index_or places k d).path ≢ path)

-- only what is held at this path has changed
abbrev pub SameElsewhere : List ℕ → List DiskPlace → List DiskPlace → Type 0
SameElsewhere path before after = (other : List ℕ) → other ≢ path → held_at after other ≡ held_at before other

-- the parts of a worker, as contracts see them
abbrev pub Parts : Type 0
Parts = WorkerParts AcceptorState LinkState ClockState

-- what the parts of a worker tell
abbrev pub parts_told : Parts → CameBack
parts_told parts = record { answers = option_map (map told_of) parts.acceptor.notes; calls = parts.link.calls }

-- what came back of each worker, by its number
abbrev pub came_back : List (Option Parts) → ℕ → Option CameBack
came_back [] number = None
came_back (back ∷ backs) zero = option_map parts_told back
came_back (back ∷ backs) (suc number) = came_back backs number

-- the disks that are there and not taken, where they are told
abbrev pub disks_of : MemoryOutside → Option Disks
disks_of outside = if outside.disks_told then Some (held_at outside.disks.items) else None

-- what came back of each worker, where it is told
abbrev pub backs_of : MemoryOutside → Option Backs
backs_of outside = if outside.backs_told then Some (came_back outside.backs.items) else None

-- the calls, where they are told
abbrev pub calls_of : MemoryOutside → Option (List OutsideCall)
calls_of outside = outside.notes

-- the numbers that it gave, where they are told
abbrev pub given_of : MemoryOutside → Option (List ℕ)
given_of outside = outside.given

abbrev pub faults_of : MemoryOutside → ℕ
faults_of outside = outside.schedule.faults

-- which calls are to fail
abbrev pub plan_of : MemoryOutside → Plan
plan_of outside = plan_in outside.schedule

-- the calls of each disk that are to fail once it is taken, by its path
abbrev pub failing_of : MemoryOutside → List ℕ → List ℕ
failing_of outside = failing_at outside.disks.items

-- the numbers that it will give
abbrev pub numbers_of : MemoryOutside → List ℕ
numbers_of outside = outside.numbers

-- the first of these numbers, and 0 behind their end
abbrev pub first_number : List ℕ → ℕ
first_number [] = 0
first_number (number ∷ numbers) = number

-- no call was made, none has failed, no disk is there, and nothing has come back
pub record IsUnused (outside : MemoryOutside) : Type 0 where
  pub disks : (bare : Disks) × (disks_of outside ≡ Some bare) × ((path : List ℕ) → bare path ≡ None)
  pub backs : (none : Backs) × (backs_of outside ≡ Some none) × ((number : ℕ) → none number ≡ None)
  pub calls : calls_of outside ≡ Some []
  pub numbers : given_of outside ≡ Some []
  pub no_faults : faults_of outside ≡ 0

-- what is held at each path
abbrev pub held_of : MemoryOutside → Disks
held_of outside = held_at outside.disks.items

-- what came back of each worker
abbrev pub back_of : MemoryOutside → Backs
back_of outside = came_back outside.backs.items

-- what was prepared for each worker, and not taken
abbrev pub scripts_of : MemoryOutside → List (Option WorkerScript)
scripts_of outside = outside.scripts.items

-- parts begin as it was prepared for this number
abbrev pub BeginsAs : List (Option WorkerScript) → ℕ → Parts → Type 0
BeginsAs scripts number parts = (script : WorkerScript) × IsAt scripts number script × IsBegun script parts

-- nothing is prepared for this number, or it was taken
abbrev pub IsMissing : List (Option WorkerScript) → ℕ → Type 0
IsMissing scripts number = (script : WorkerScript) → IsAt scripts number script → ⊥

-- a worker of this number can't begin now: the call is to fail, or there is no such worker
abbrev pub WorkerFails : MemoryOutside → ℕ → Type 0
WorkerFails outside number = FailsNext (plan_of outside) ⊎ IsMissing (scripts_of outside) number
