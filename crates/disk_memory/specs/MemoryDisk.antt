-- What contracts say of a disk in memory.
use Rattle.std.specs.Prelude.{◌≡◌, ◌⊎◌, ℕ, List, [], ◌∷◌, length, reverse}
use Rattle.side_world.specs.Disk.{GoesOn}
use Rattle.disk_memory.specs.DiskNotes.{MayLeave, MayHaveLeft}
use Rattle.disk_memory.specs.Plan.{Plan, begun, plan_in, FailsNext}
use Rattle.disk_memory.specs.declared.memory_disk.MemoryDisk.{MemoryDisk}
use Rattle.disk_memory.specs.declared.note.Note.{Note}
use Rattle.disk_memory.specs.declared.note.Note.TheVariants.{Lost}

-- the bytes that it was made with
abbrev pub opening_of : MemoryDisk → List ℕ
opening_of disk = disk.opening.items

-- its writes and syncs, the latest first
abbrev pub notes_of : MemoryDisk → List Note
notes_of disk = reverse disk.notes.items

-- what a read gives
abbrev pub bytes_of : MemoryDisk → List ℕ
bytes_of disk = disk.bytes.items

abbrev pub faults_of : MemoryDisk → ℕ
faults_of disk = disk.schedule.faults

-- one note more
pub record HasNoted (note : Note) (old new : MemoryDisk) : Type 0 where
  pub opening : opening_of new ≡ opening_of old
  pub notes : notes_of new ≡ note ∷ notes_of old

-- no note more
pub record HasNotedNothing (old new : MemoryDisk) : Type 0 where
  pub opening : opening_of new ≡ opening_of old
  pub notes : notes_of new ≡ notes_of old

-- a write that failed is noted as lost, or, where there is no memory for the note, not at all
abbrev pub HasLost : ℕ → List ℕ → MemoryDisk → MemoryDisk → Type 0
HasLost at piece old new = HasNoted (Lost at piece) old new ⊎ HasNotedNothing old new

-- time has gone on: what a crash since a moment may have left it might have left before, or it may leave it now
abbrev pub HasGoneOn : MemoryDisk → MemoryDisk → Type 0
HasGoneOn old new =
    GoesOn (length (notes_of old)) (length (notes_of new)) (MayHaveLeft (opening_of old) (notes_of old)) (MayHaveLeft (opening_of new) (notes_of new)) (MayLeave (opening_of new) (notes_of new))

-- which calls are to fail
abbrev pub plan_of : MemoryDisk → Plan
plan_of disk = plan_in disk.schedule

-- the next call is one that is to fail
abbrev pub FailsNow : MemoryDisk → Type 0
FailsNow disk = FailsNext (plan_of disk)

-- no call of it was made, and these are to fail
abbrev pub IsToFail : List ℕ → MemoryDisk → Type 0
IsToFail failing disk = plan_of disk ≡ begun failing

-- a disk of these bytes, all of them on it, of which no call was noted and none has failed
pub record IsOpened (bytes : List ℕ) (disk : MemoryDisk) : Type 0 where
  pub opening : opening_of disk ≡ bytes
  pub same : bytes_of disk ≡ bytes
  pub unused : notes_of disk ≡ []
  pub no_faults : faults_of disk ≡ 0
