-- What a keeper in memory shows.
use Rattle.std.specs.Prelude.{◌≡◌, ◌≢◌, ℕ, ◌+◌, ◌-◌, ◌^◌, min, List, Result, Err, Contains}
use Rattle.keeper_core.specs.Rows.{Rows}
use Rattle.std.specs.declared.hash.DefaultHasher.{DefaultHasher}
use Rattle.keeper_core.specs.declared.keeper.KeepErr.{KeepErr}
use Rattle.keeper_core.specs.declared.keeper.KeepErr.TheVariants.{NoMemory}
use Rattle.keeper_core.specs.declared.memory_keeper.MemoryKeeper.{MemoryKeeper}

abbrev pub rows_in : MemoryKeeper → Rows
rows_in keeper = keeper.table.rows

-- the hasher that keys are fed to
abbrev pub hasher_in : MemoryKeeper → DefaultHasher
hasher_in keeper = keeper.table.hasher

abbrev pub next_of : MemoryKeeper → ℕ
next_of keeper = keeper.next

abbrev pub limit_of : MemoryKeeper → ℕ
limit_of keeper = keeper.limit

abbrev pub faults_of : MemoryKeeper → ℕ
faults_of keeper = keeper.failing.faults

-- the commits that fail, counted from 0
abbrev pub failing_of : MemoryKeeper → List ℕ
failing_of keeper = keeper.failing.places

-- how many commits there were, without those that found no memory; at most 2^64 - 1
abbrev pub commits_of : MemoryKeeper → ℕ
commits_of keeper = keeper.failing.commits

-- the next commit is one of those that fail
abbrev pub FailsNext : MemoryKeeper → Type 0
FailsNext keeper = Contains (failing_of keeper) (commits_of keeper)

-- a commit with this answer counts, unless it found no memory
pub record CountsCommit (old new : MemoryKeeper) (answer : Result (Unit {0}) KeepErr) : Type 0 where
  pub counted : answer ≢ Err NoMemory → commits_of new ≡ min (commits_of old + 1) (2 ^ 64 - 1)
  pub unheard : answer ≡ Err NoMemory → commits_of new ≡ commits_of old
