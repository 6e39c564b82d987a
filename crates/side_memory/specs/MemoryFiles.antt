-- What contracts say of files in memory.
use Rattle.std.specs.Prelude.{◌≡◌, ◌⊎◌, ◌&&◌, ℕ, Bool, true, false, if◌then◌else◌, List, [], ◌∷◌, bytes_eq, Option, Some, None}
use Rattle.side_world.specs.declared.files.FilesCall.{FilesCall}
use Rattle.side_world.specs.Files.{Folders, Held}
use Rattle.disk_memory.specs.Plan.{Plan, plan_in, FailsNext}
use Rattle.side_memory.specs.declared.memory_files.MemoryFile.{MemoryFile}
use Rattle.side_memory.specs.declared.memory_files.MemoryFiles.{MemoryFiles}

-- the bytes of the first file of this name in this folder
abbrev pub bytes_at : List MemoryFile → List ℕ → Held
bytes_at [] folder name = None
bytes_at (file ∷ files) folder name =
    if bytes_eq file.folder folder && bytes_eq file.name name then Some file.bytes else bytes_at files folder name

abbrev pub files_of : MemoryFiles → List ℕ → Held
files_of files = bytes_at files.files.items

-- this, where it is there, and else that
abbrev pub first_of : Option (List ℕ) → Option (List ℕ) → Option (List ℕ)
first_of (Some bytes) other = Some bytes
first_of None other = other

-- with one file more: of two of one name in a folder the first counts
abbrev pub with_file : (List ℕ → Held) → List ℕ → List ℕ → List ℕ → List ℕ → Held
with_file files folder name bytes in_folder named =
    first_of (files in_folder named) (if bytes_eq folder in_folder && bytes_eq name named then Some bytes else None)

-- the folders that are there
abbrev pub folders_of : MemoryFiles → List (List ℕ)
folders_of files = files.folders.items

-- one of these folders is this
abbrev pub is_one_of : List (List ℕ) → List ℕ → Bool
is_one_of [] folder = false
is_one_of (one ∷ folders) folder = if bytes_eq one folder then true else is_one_of folders folder

-- what is there: the files of each folder that is
abbrev pub told_in : List (List ℕ) → (List ℕ → Held) → Folders
told_in folders files folder = if is_one_of folders folder then Some (files folder) else None

abbrev pub told_of : MemoryFiles → Folders
told_of files = told_in (folders_of files) (files_of files)

-- the calls, where they are told
abbrev pub calls_of : MemoryFiles → Option (List FilesCall)
calls_of files = files.notes

abbrev pub faults_of : MemoryFiles → ℕ
faults_of files = files.schedule.faults

-- which calls are to fail
abbrev pub plan_of : MemoryFiles → Plan
plan_of files = plan_in files.schedule

-- a listing of this folder fails now: it is to fail, or there is no such folder
abbrev pub ListFails : MemoryFiles → List ℕ → Type 0
ListFails files folder = FailsNext (plan_of files) ⊎ (is_one_of (folders_of files) folder ≡ false)

-- a read of this file fails now: it is to fail, or there is no such folder, or no such file
abbrev pub ReadFails : MemoryFiles → List ℕ → List ℕ → Type 0
ReadFails files folder name = ListFails files folder ⊎ (files_of files folder name ≡ None)
