-- Commits in order, the bodies that say them, and the rows that they leave.
use Rattle.std.specs.Prelude.{◌≡◌, ◌⊎◌, ◌≤◌, ℕ, ◌^◌, List, [], ◌∷◌, ◌++◌, Option}
use Rattle.std.specs.FinMap.{empty}
use Rattle.keeper_core.specs.Rows.{Rows}
use Rattle.keeper_core.specs.Changes.{after_changes, VersionsAreBelow}
use Rattle.keeper_core.specs.declared.changes.Changes.{Changes}
use Rattle.disk_journal.specs.Image.{IsImage, end_of}
use Rattle.disk_journal.specs.OneMore.{WithOneAtMost}
use Rattle.disk_journal.specs.Refusal.{IsNoJournal}
use Rattle.keeper_journal.specs.Body.{IsBodyOf}

-- the rows after commits, one after the other
abbrev pub rows_after : Rows → List Changes → Rows
rows_after rows [] = rows
rows_after rows (commit ∷ commits) = rows_after (after_changes rows commit.list) commits

abbrev pub rows_of : List Changes → Rows
rows_of commits = rows_after empty commits

-- the version that the next write gets after commits
abbrev pub next_after : ℕ → List Changes → ℕ
next_after next [] = next
next_after next (commit ∷ commits) = next_after commit.next commits

-- before the first commit it is 1
abbrev pub next_of : List Changes → ℕ
next_of commits = next_after 1 commits

-- a commit may follow where the next version is this one: its own does not fall, is at most 2^62, and above every version that it puts
pub record MayFollow (next : ℕ) (commit : Changes) : Type 0 where
  pub grows : next ≤ commit.next
  pub most : commit.next ≤ 2 ^ 62
  pub below : VersionsAreBelow commit.next commit.list

-- each body says the commit at its place, which may follow those before it
abbrev pub SayFrom : ℕ → List (List ℕ) → List Changes → Type 0
SayFrom next [] [] = Unit {0}
SayFrom next (body ∷ bodies) (commit ∷ commits) = IsBodyOf body commit × MayFollow next commit × SayFrom commit.next bodies commits
SayFrom next [] (commit ∷ commits) = ⊥
SayFrom next (body ∷ bodies) [] = ⊥

abbrev pub Say : List (List ℕ) → List Changes → Type 0
Say bodies commits = SayFrom 1 bodies commits

-- a body says no commit that may follow these
abbrev pub SaysNone : List Changes → List ℕ → Type 0
SaysNone commits body = (commit : Changes) → IsBodyOf body commit → MayFollow (next_of commits) commit → ⊥

-- the gate of the first body that says no commit which may follow those before it has this place
pub record IsFaultyAt (bodies : List (List ℕ)) (at : ℕ) : Type 0 where
  pub before : List (List ℕ)
  pub body : List ℕ
  pub behind : List (List ℕ)
  pub commits : List Changes
  pub bodies_are : bodies ≡ before ++ body ∷ behind
  pub say : Say before commits
  pub says_none : SaysNone commits body
  pub gate : at ≡ end_of before

-- a file of bodies that say these commits
pub record IsHistory (bytes : List ℕ) (commits : List Changes) : Type 0 where
  pub bodies : List (List ℕ)
  pub image : IsImage bytes bodies
  pub say : Say bodies commits

-- a file of bodies one of which is faulty; the first of those has its gate at this place
pub record IsFaultyFile (bytes : List ℕ) (at : ℕ) : Type 0 where
  pub bodies : List (List ℕ)
  pub image : IsImage bytes bodies
  pub faulty : IsFaultyAt bodies at

-- the file is refused, and this place shows it
abbrev pub IsRefusedAt : List ℕ → ℕ → Type 0
IsRefusedAt bytes at = IsNoJournal bytes at ⊎ IsFaultyFile bytes at

-- a file of these commits, or of them and of one of two others
abbrev pub IsWithOneAtMost : List Changes → Option Changes → Changes → List ℕ → Type 0
IsWithOneAtMost commits doubt commit bytes = WithOneAtMost (IsHistory bytes) commits doubt commit
