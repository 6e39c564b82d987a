-- Which commits a keeper keeps.
use Rattle.std.specs.Prelude.{◌≡◌, ◌⊎◌, ℕ, Bool, true, List, Option, Some, None, Result, Err}
use Rattle.side_world.specs.declared.disk.Disk.{Ghosts}
use Rattle.keeper_core.specs.declared.changes.Changes.{Changes}
use Rattle.keeper_core.specs.declared.keeper.KeepErr.{KeepErr}
use Rattle.keeper_core.specs.declared.keeper.KeepErr.TheVariants.{Full, Failed}
use Rattle.keeper_core.specs.Rows.{Rows}
use Rattle.disk_journal.specs.AnyRun.{HoldsAsBefore}
use Rattle.disk_journal.specs.Journal.{Holds}
use Rattle.disk_journal.specs.declared.journal.Journal.{Journal}
use Rattle.keeper_journal.specs.Body.{IsBodyOf}
use Rattle.keeper_journal.specs.History.{Say, MayFollow, rows_of, next_of}
use Rattle.keeper_journal.specs.JournalKeeper.{rows_in, next_in}
use Rattle.keeper_journal.specs.declared.journal_keeper.JournalKeeper.{JournalKeeper}

-- the body in doubt says the commit in doubt, which may follow where the next version is this one
abbrev pub SaysDoubt : ℕ → Option (List ℕ) → Option Changes → Type 0
SaysDoubt next None None = Unit {0}
SaysDoubt next (Some body) (Some commit) = IsBodyOf body commit × MayFollow next commit
SaysDoubt next None (Some commit) = ⊥
SaysDoubt next (Some body) None = ⊥

-- A journal, rows and a next version are those of these commits: the journal holds bodies that say them. In doubt is a commit that failed
-- at its gate and was not repaired, where there is one: a crash may leave it or not.
pub record KeptAs {D : Type 0} (disking : Ghosts D) (journal : Journal D disking) (rows : Rows) (next : ℕ) (commits : List Changes) (doubt : Option Changes) : Type 0 where
  pub bodies : List (List ℕ)
  pub doubted : Option (List ℕ)
  pub holds : Holds disking journal bodies doubted
  pub say : Say bodies commits
  pub in_doubt : SaysDoubt (next_of commits) doubted doubt
  pub rows_are : rows ≡ rows_of commits
  pub next_is : next ≡ next_of commits

-- the keeper keeps these commits
abbrev pub Kept : {D : Type 0} (disking : Ghosts D) → JournalKeeper D disking → List Changes → Option Changes → Type 0
Kept disking keeper commits doubt = KeptAs disking keeper.journal (rows_in keeper) (next_in keeper) commits doubt

-- after a commit that was not made: it keeps what it kept, and in doubt is what was, or nothing, or that commit
abbrev pub IsUndone : {D : Type 0} (disking : Ghosts D) → JournalKeeper D disking → List Changes → Option Changes → Changes → Type 0
IsUndone disking = HoldsAsBefore (Kept disking)

-- the answer to a commit with which the file would have this length, which is too long: that length, unless the journal was torn and its repair failed
abbrev pub IsTooLong : Bool → ℕ → Result (Unit {0}) KeepErr → Type 0
IsTooLong torn size answer = (answer ≡ Err (Full size)) ⊎ ((answer ≡ Err Failed) × (torn ≡ true))
