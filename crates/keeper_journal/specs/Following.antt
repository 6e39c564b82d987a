-- What a body does to the rows and the next version so far.
use Rattle.std.specs.Prelude.{◌≡◌, ℕ, List, Bool, true, false}
use Rattle.side_world.specs.declared.disk.Disk.{Ghosts}
use Rattle.keeper_core.specs.Changes.{after_changes}
use Rattle.keeper_core.specs.declared.changes.Changes.{Changes}
use Rattle.disk_journal.specs.Opening.{HasGiven, HasGivenAll}
use Rattle.disk_journal.specs.declared.opening.Opening.{Opening}
use Rattle.keeper_journal.specs.Body.{IsBodyOf}
use Rattle.keeper_journal.specs.History.{MayFollow, Say, rows_of, next_of}
use Rattle.keeper_journal.specs.declared.following.Replay.{Replay}

-- the body says a commit that may follow, and that was made
pub record Follows (body : List ℕ) (old new : Replay) : Type 0 where
  pub commit : Changes
  pub says : IsBodyOf body commit
  pub may : MayFollow old.next commit
  pub rows : new.table.rows ≡ after_changes old.table.rows commit.list
  pub next : new.next ≡ commit.next

-- a body says no commit that may follow where the next version is this one
abbrev pub SaysNoneAfter : ℕ → List ℕ → Type 0
SaysNoneAfter next body = (commit : Changes) → IsBodyOf body commit → MayFollow next commit → ⊥

-- these bodies say commits, and all were made
pub record HasReplayed (bodies : List (List ℕ)) (replay : Replay) : Type 0 where
  pub commits : List Changes
  pub say : Say bodies commits
  pub rows : replay.table.rows ≡ rows_of commits
  pub next : replay.next ≡ next_of commits

-- The bodies that were given so far, by calls since this disk, say commits, and all were made.
pub record HasFollowed {D : Type 0} (disking : Ghosts D) (first : D) (opening : Opening D disking) (replay : Replay) : Type 0 where
  pub bodies : List (List ℕ)
  pub given : HasGiven disking first opening bodies
  pub replayed : HasReplayed bodies replay

-- so do all bodies
pub record HasFollowedAll {D : Type 0} (disking : Ghosts D) (first : D) (opening : Opening D disking) (replay : Replay) : Type 0 where
  pub bodies : List (List ℕ)
  pub given : HasGivenAll disking first opening bodies
  pub replayed : HasReplayed bodies replay

-- one more body was followed, or there is none
abbrev pub FollowsNext : {D : Type 0} (disking : Ghosts D) → D → Opening D disking → Replay → Bool → Type 0
FollowsNext disking first opening replay true = HasFollowed disking first opening replay
FollowsNext disking first opening replay false = HasFollowedAll disking first opening replay
