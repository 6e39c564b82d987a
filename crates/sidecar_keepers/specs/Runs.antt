-- What is held at the paths of journals after a run, beside what was held before it.
use Rattle.std.specs.Prelude.{◌≡◌, ◌≢◌, ℕ, List, [], ◌∷◌, ◌++◌, Option, Some, None}
use Rattle.side_world.specs.Outside.{Disks, bytes_or_none}
use Rattle.side_world.specs.declared.disk.Disk.{Ghosts as Keeps}
use Rattle.keeper_core.specs.declared.changes.Changes.{Changes}
use Rattle.keeper_core.specs.declared.keeper.Keeper.{Ghosts}
use Rattle.keeper_core.specs.Commits.{HasMade}
use Rattle.keeper_journal.specs.declared.any_keeper.AnyKeeper.{AnyKeeper}
use Rattle.keeper_journal.specs.History.{IsHistory}
use Rattle.keeper_journal.specs.Run.{HasAtMostOneMore}
use Rattle.resource_spec.specs.Component.{Loaded}
use Rattle.resource_spec.specs.Load.{journal_of}
use Rattle.sidecar_keepers.specs.Given.{AreBack}
use Rattle.sidecar_keepers.specs.Made.{AreMade}
use Rattle.sidecar_keepers.specs.Stores.{paths_of}

-- the commits that a file says where a journal is opened: one of no bytes says none
abbrev pub SaysOnOpening : List ℕ → List Changes → Type 0
SaysOnOpening [] commits = commits ≡ []
SaysOnOpening (byte ∷ bytes) commits = IsHistory (byte ∷ bytes) commits

-- from its first state to its last each keeper has made these commits, of which there is one list for each
abbrev pub HaveMade : {K : Type 0} → Ghosts K → List K → List K → List (List Changes) → Type 0
HaveMade keeping [] [] [] = Unit {0}
HaveMade keeping (first ∷ firsts) (last ∷ lasts) (commits ∷ made) = HasMade keeping first last commits × HaveMade keeping firsts lasts made
HaveMade keeping _ _ _ = ⊥

-- a file after a run: the commits that it said on opening, then those that were made, then at most one more
pub record IsFileAfter (held held' : Option (List ℕ)) (made : List Changes) : Type 0 where
  pub bytes : List ℕ
  pub is : held' ≡ Some bytes
  pub commits : List Changes
  pub opening : SaysOnOpening (bytes_or_none held) commits
  pub behind : HasAtMostOneMore (commits ++ made) bytes

-- the file at this path, where there is a path
abbrev pub HasFileAfter : Option (List ℕ) → Disks → Disks → List Changes → Type 0
HasFileAfter None held held' made = Unit {0}
HasFileAfter (Some path) held held' made = IsFileAfter (held path) (held' path) made

-- the file of each journal
abbrev pub HaveFilesAfter : List Loaded → Disks → Disks → List (List Changes) → Type 0
HaveFilesAfter [] held held' [] = Unit {0}
HaveFilesAfter (c ∷ stores) held held' (commits ∷ made) = HasFileAfter (journal_of c) held held' commits × HaveFilesAfter stores held held' made
HaveFilesAfter [] held held' (commits ∷ made) = ⊥
HaveFilesAfter (c ∷ stores) held held' [] = ⊥

-- a path is none of these
abbrev pub IsNoneOf : List ℕ → List (List ℕ) → Type 0
IsNoneOf path [] = Unit {0}
IsNoneOf path (other ∷ others) = (other ≢ path) × IsNoneOf path others

-- no path stands twice
abbrev pub AreApart : List (List ℕ) → Type 0
AreApart [] = Unit {0}
AreApart (path ∷ paths) = IsNoneOf path paths × AreApart paths

-- what is held after a run of these stores: the file of each journal, and elsewhere what was held before it
pub record IsHeldAfter (stores : List Loaded) (held held' : Disks) (made : List (List Changes)) : Type 0 where
  pub files : HaveFilesAfter stores held held' made
  pub others : (other : List ℕ) → IsNoneOf other (paths_of stores) → held' other ≡ held other

-- disks that always tell what a read gives, as those in memory do
abbrev pub TellAlways : {D : Type 0} → Keeps D → Type 0
TellAlways {D} disking = (disk : D) → (bytes : List ℕ) × (disking.contents disk ≡ Some bytes)

module _ {D : Type 0} (disking : Keeps D) (keeping : Ghosts (AnyKeeper D disking)) where
  -- Where keepers were made, over disks that always tell and journals with paths of their own, made these commits and gave their disks back, what is held then is what
  -- is held after a run of these stores
  abbrev pub FilesHaveWhatWasMade : Type 0
  FilesHaveWhatWasMade =
      (stores : List Loaded) (firsts lasts : List (AnyKeeper D disking)) (made : List (List Changes)) (before mid after : Option Disks)
      → AreApart (paths_of stores) → TellAlways disking → AreMade disking stores firsts before mid → HaveMade keeping firsts lasts made → AreBack disking stores lasts mid after
      → (held' : Disks) → after ≡ Some held' → (held : Disks) × (before ≡ Some held) × IsHeldAfter stores held held' made
