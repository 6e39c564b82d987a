-- Which commits a keeper keeps, from what its journal holds.
use Rattle.std.proofs.Common.{◌≡◌, ◌⊎◌, inl, inr, ◌≤◌, ◌<◌, ◌^◌, ℕ, Bool, false, List, [], ◌∷◌, ◌++◌, Option, Some, None, sym, ◌∙◌, ap, subst}
use Rattle.std.proofs.Props.{props}
use Rattle.std.proofs.lemmas.Bool.{false≢true}
use Rattle.std.specs.Prelude.{is_some}
use Rattle.std.specs.FinMap.{empty}
use Rattle.side_world.specs.declared.disk.Disk.{Ghosts}
use Rattle.keeper_core.specs.Rows.{Rows, IsCounted}
use Rattle.keeper_core.specs.Changes.{after_changes, VersionsAreBelow}
use Rattle.keeper_core.specs.declared.changes.Change.{Change}
use Rattle.keeper_core.specs.declared.changes.Changes.{Changes}
use Rattle.disk_journal.specs.Image.{IsImage, IsFile}
use Rattle.disk_journal.specs.Journal.{Holds, limit_of}
use Rattle.disk_journal.specs.OneMore.{WithOneMore, WithDoubt}
use Rattle.disk_journal.specs.declared.journal.Journal.{Journal}
use Rattle.disk_journal.proofs.Images.{with_doubt}
use Rattle.disk_journal.proofs.Runs.{with_any}
use Rattle.keeper_journal.specs.Body.{IsBodyOf}
use Rattle.keeper_journal.specs.History.{Say, MayFollow, next_of, IsHistory, IsWithOneAtMost}
use Rattle.keeper_journal.specs.Kept.{SaysDoubt, KeptAs}
use Rattle.keeper_journal.specs.Storing as storing
use Rattle.keeper_journal.specs.declared.journal_keeper.JournalKeeper.{JournalKeeper}
use Rattle.keeper_journal.proofs.Histories.{say_more, rows-more, next-more}

one_more : (bodies : List (List ℕ)) (body : List ℕ) (commits : List Changes) (commit : Changes) (bytes : List ℕ) → Say bodies commits → IsBodyOf body commit → MayFollow (next_of commits) commit
    → IsImage bytes (bodies ++ body ∷ []) → IsHistory bytes (commits ++ commit ∷ [])
one_more bodies body commits commit bytes say is may image = record { bodies = bodies ++ body ∷ []; image = image; say = say_more 1 bodies commits body commit say is may }

doubted_more : (bodies : List (List ℕ)) (doubted : Option (List ℕ)) (commits : List Changes) (doubt : Option Changes) (bytes : List ℕ) → Say bodies commits → SaysDoubt (next_of commits) doubted doubt
    → WithOneMore (IsImage bytes) bodies doubted → WithOneMore (IsHistory bytes) commits doubt
doubted_more bodies None commits None bytes say in_doubt h = h
doubted_more bodies None commits (Some commit) bytes say in_doubt h = absurd h
doubted_more bodies (Some body) commits None bytes say in_doubt h = absurd in_doubt
doubted_more bodies (Some body) commits (Some commit) bytes say in_doubt h = one_more bodies body commits commit bytes say in_doubt.0 in_doubt.1 h

-- a file of bodies is one of the commits that they say
pub says_commits : (bodies : List (List ℕ)) (doubted : Option (List ℕ)) (body : List ℕ) (commits : List Changes) (doubt : Option Changes) (commit : Changes) (bytes : List ℕ)
    → Say bodies commits → SaysDoubt (next_of commits) doubted doubt → IsBodyOf body commit → MayFollow (next_of commits) commit
    → storing.IsWithOneAtMost bodies doubted body bytes → IsWithOneAtMost commits doubt commit bytes
says_commits bodies doubted body commits doubt commit bytes say in_doubt is may (inl same) = inl (record { bodies = bodies; image = same; say = say })
says_commits bodies doubted body commits doubt commit bytes say in_doubt is may (inr (inl old)) = inr (inl (doubted_more bodies doubted commits doubt bytes say in_doubt old))
says_commits bodies doubted body commits doubt commit bytes say in_doubt is may (inr (inr new)) = inr (inr (one_more bodies body commits commit bytes say is may new))

-- and so with the one in doubt or without it
says_doubt : (bodies : List (List ℕ)) (doubted : Option (List ℕ)) (commits : List Changes) (doubt : Option Changes) (bytes : List ℕ) → Say bodies commits → SaysDoubt (next_of commits) doubted doubt
    → storing.IsWithDoubt bodies doubted bytes → WithDoubt (IsHistory bytes) commits doubt
says_doubt bodies doubted commits doubt bytes say in_doubt (inl same) = inl (record { bodies = bodies; image = same; say = say })
says_doubt bodies doubted commits doubt bytes say in_doubt (inr old) = inr (doubted_more bodies doubted commits doubt bytes say in_doubt old)

pub kept_file : (bodies : List (List ℕ)) (doubted : Option (List ℕ)) (commits : List Changes) (doubt : Option Changes) (bytes : List ℕ) → Say bodies commits → SaysDoubt (next_of commits) doubted doubt
    → IsFile bodies doubted bytes → WithDoubt (IsHistory bytes) commits doubt
kept_file bodies doubted commits doubt bytes say in_doubt file = says_doubt bodies doubted commits doubt bytes say in_doubt (with_doubt bytes bodies doubted file)

-- where no body is in doubt, it is one of just those commits
pub just_kept : (bodies : List (List ℕ)) (doubted : Option (List ℕ)) (commits : List Changes) (bytes : List ℕ) → Say bodies commits → is_some doubted ≡ false → IsFile bodies doubted bytes → IsHistory bytes commits
just_kept bodies None commits bytes say none file = record { bodies = bodies; image = file; say = say }
just_kept bodies (Some body) commits bytes say none file = absurd (false≢true (sym none))

pub doubt_says : (bodies : List (List ℕ)) (doubted : Option (List ℕ)) (commits : List Changes) (doubt : Option Changes) (commit : Changes) (bytes : List ℕ) → Say bodies commits → SaysDoubt (next_of commits) doubted doubt
    → storing.IsWithDoubt bodies doubted bytes → IsWithOneAtMost commits doubt commit bytes
doubt_says bodies doubted commits doubt commit bytes say in_doubt is = with_any (IsHistory bytes) commits doubt commit (says_doubt bodies doubted commits doubt bytes say in_doubt is)

pub kept_says : (bodies : List (List ℕ)) (doubted : Option (List ℕ)) (commits : List Changes) (doubt : Option Changes) (commit : Changes) (bytes : List ℕ) → Say bodies commits → SaysDoubt (next_of commits) doubted doubt
    → IsFile bodies doubted bytes → IsWithOneAtMost commits doubt commit bytes
kept_says bodies doubted commits doubt commit bytes say in_doubt file = doubt_says bodies doubted commits doubt commit bytes say in_doubt (with_doubt bytes bodies doubted file)

-- a journal with what another held, whose doubt is over or stays
module _ {D : Type 0} (disking : Ghosts D) (old new : Journal D disking) (rows : Rows) (next : ℕ) (commits : List Changes) (doubt : Option Changes) (kept : KeptAs disking old rows next commits doubt) where
  pub kept_whole : Holds disking new kept.bodies None → KeptAs disking new rows next commits None
  kept_whole holds = record { bodies = kept.bodies; doubted = None; holds = holds; say = kept.say; in_doubt = tt; rows_are = kept.rows_are; next_is = kept.next_is }

  pub kept_in_doubt : Holds disking new kept.bodies kept.doubted → KeptAs disking new rows next commits doubt
  kept_in_doubt holds = record { bodies = kept.bodies; doubted = kept.doubted; holds = holds; say = kept.say; in_doubt = kept.in_doubt; rows_are = kept.rows_are; next_is = kept.next_is }

pub may_be_next : (next : ℕ) (commits : List Changes) (commit : Changes) → next ≡ next_of commits → next ≤ commit.next → commit.next ≤ 2 ^ 62 → VersionsAreBelow commit.next commit.list → MayFollow (next_of commits) commit
may_be_next next commits commit is grows most below = record { grows = subst (λ (n : ℕ). n ≤ commit.next) is grows; most = most; below = below }

module _ {D : Type 0} (disking : Ghosts D) (old new : Journal D disking) (rows : Rows) (next : ℕ) (commits : List Changes) (doubt : Option Changes) (commit : Changes) (body : List ℕ)
    (kept : KeptAs disking old rows next commits doubt) (is : IsBodyOf body commit) (may : MayFollow (next_of commits) commit) where
  pub kept_more : (after : Rows) → after ≡ after_changes rows commit.list → Holds disking new (kept.bodies ++ body ∷ []) None → KeptAs disking new after commit.next (commits ++ commit ∷ []) None
  kept_more after made holds = record {
    bodies = kept.bodies ++ body ∷ [];
    doubted = None;
    holds = holds;
    say = say_more 1 kept.bodies commits body commit kept.say is may;
    in_doubt = tt;
    rows_are = made ∙ ap (λ (r : Rows). after_changes r commit.list) kept.rows_are ∙ sym (rows-more empty commits commit);
    next_is = sym (next-more 1 commits commit);
  }

  pub kept_still : Holds disking new kept.bodies kept.doubted ⊎ Holds disking new kept.bodies None ⊎ Holds disking new kept.bodies (Some body)
      → KeptAs disking new rows next commits doubt ⊎ KeptAs disking new rows next commits None ⊎ KeptAs disking new rows next commits (Some commit)
  kept_still (inl holds) = inl (kept_in_doubt disking old new rows next commits doubt kept holds)
  kept_still (inr (inl holds)) = inr (inl (kept_whole disking old new rows next commits doubt kept holds))
  kept_still (inr (inr holds)) = inr (inr (record { bodies = kept.bodies; doubted = Some body; holds = holds; say = kept.say; in_doubt = (is, may); rows_are = kept.rows_are; next_is = kept.next_is }))

-- a keeper made again of its parts is the same
pub made_again : {D : Type 0} {disking : Ghosts D} (keeper : JournalKeeper D disking) (counted : IsCounted keeper.table.rows keeper.next) (short : limit_of keeper.journal < 2 ^ 32)
    → (let again : JournalKeeper D disking = record { alloc = keeper.alloc; journal = keeper.journal; table = keeper.table; next = keeper.next; counted = counted; short = short } in again ≡ keeper)
made_again keeper counted short =
    let counted_prop : IsProp (IsCounted keeper.table.rows keeper.next) = hlevel props in
    let short_prop : IsProp (limit_of keeper.journal < 2 ^ 32) = hlevel props in
    λ i. record {
      alloc = keeper.alloc;
      journal = keeper.journal;
      table = keeper.table;
      next = keeper.next;
      counted = counted_prop counted keeper.counted i;
      short = short_prop short keeper.short i;
    }

-- the body of a list of changes that went through other hands
pub still_body : (bytes body : List ℕ) (list slice : List Change) (commit : Changes) → bytes ≡ body → slice ≡ list → list ≡ commit.list → IsBodyOf body (record { list = slice; next = commit.next }) → IsBodyOf bytes commit
still_body bytes body list slice commit p q r is =
    subst (λ (b : List ℕ). IsBodyOf b commit) (sym p) (subst (λ (l : List Change). IsBodyOf body (record { list = l; next = commit.next })) (q ∙ r) is)
