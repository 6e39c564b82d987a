-- What a keeper of either kind shows.
use Rattle.std.specs.Prelude.{◌≡◌, ℕ, Bool, true, false, List, [], ◌++◌, Option, Some, None, refl}
use Rattle.std.specs.declared.hash.DefaultHasher.{DefaultHasher}
use Rattle.side_world.specs.declared.disk.Disk.{Ghosts}
use Rattle.keeper_core.specs.Rows.{Rows, bytes_in, IsCounted}
use Rattle.keeper_core.specs.Changes.{after_changes}
use Rattle.keeper_core.specs.Faults.{has_some}
use Rattle.keeper_core.specs.MemoryKeeper as memory
use Rattle.keeper_core.specs.declared.changes.Change.{Change}
use Rattle.keeper_core.specs.declared.changes.Changes.{Changes}
use Rattle.keeper_journal.specs.JournalKeeper as journal
use Rattle.disk_journal.specs.Journal.{torn_of}
use Rattle.disk_journal.specs.Moments.{Reads}
use Rattle.keeper_journal.specs.History.{IsHistory}
use Rattle.keeper_journal.specs.Kept.{Kept}
use Rattle.keeper_journal.specs.Run.{Leads, leads_on}
use Rattle.keeper_journal.specs.declared.any_keeper.AnyKeeper.{AnyKeeper}
use Rattle.keeper_journal.specs.declared.any_keeper.AnyKeeper.TheVariants.{Memory, Journal}

abbrev pub any_rows : {D : Type 0} {disking : Ghosts D} → AnyKeeper D disking → Rows
any_rows (Memory keeper) = memory.rows_in keeper
any_rows (Journal keeper) = journal.rows_in keeper

-- the hasher that keys are fed to
abbrev pub any_hasher : {D : Type 0} {disking : Ghosts D} → AnyKeeper D disking → DefaultHasher
any_hasher (Memory keeper) = memory.hasher_in keeper
any_hasher (Journal keeper) = journal.hasher_in keeper

abbrev pub any_next : {D : Type 0} {disking : Ghosts D} → AnyKeeper D disking → ℕ
any_next (Memory keeper) = memory.next_of keeper
any_next (Journal keeper) = journal.next_in keeper

abbrev pub any_size : {D : Type 0} {disking : Ghosts D} → AnyKeeper D disking → ℕ
any_size (Memory keeper) = bytes_in (memory.rows_in keeper)
any_size (Journal keeper) = journal.size_in keeper

abbrev pub any_limit : {D : Type 0} {disking : Ghosts D} → AnyKeeper D disking → ℕ
any_limit (Memory keeper) = memory.limit_of keeper
any_limit (Journal keeper) = journal.limit_in keeper

abbrev pub any_faults : {D : Type 0} {disking : Ghosts D} → AnyKeeper D disking → ℕ
any_faults (Memory keeper) = memory.faults_of keeper
any_faults {disking = disking} (Journal keeper) = disking.faults (journal.disk_in keeper)

abbrev pub any_may_fail : {D : Type 0} {disking : Ghosts D} → AnyKeeper D disking → Bool
any_may_fail (Memory keeper) = has_some (memory.failing_of keeper)
any_may_fail (Journal keeper) = true

abbrev pub any_size_after : {D : Type 0} {disking : Ghosts D} → AnyKeeper D disking → Rows → ℕ → List Change → ℕ
any_size_after (Memory keeper) rows size changes = bytes_in (after_changes rows changes)
any_size_after (Journal keeper) rows size changes = journal.size_with size changes

pub any_counted : {D : Type 0} {disking : Ghosts D} (keeper : AnyKeeper D disking) → IsCounted (any_rows keeper) (any_next keeper)
any_counted (Memory keeper) = keeper.counted
any_counted (Journal keeper) = keeper.counted

-- a keeper stays of its kind, and the calls of one over a journal are a run
abbrev pub any_leads : {D : Type 0} {disking : Ghosts D} → AnyKeeper D disking → List (Option Changes) → AnyKeeper D disking → Type 0
any_leads (Memory old) answers (Memory new) = Unit {0}
any_leads {disking = disking} (Journal old) answers (Journal new) = Leads disking old answers new
any_leads (Memory old) answers (Journal new) = ⊥
any_leads (Journal old) answers (Memory new) = ⊥

-- which commits a keeper of either kind keeps; one in memory is asked for none
abbrev pub KeptByAny : {D : Type 0} {disking : Ghosts D} → AnyKeeper D disking → List Changes → Option Changes → Type 0
KeptByAny (Memory keeper) commits doubt = Unit {0}
KeptByAny {disking = disking} (Journal keeper) commits doubt = Kept disking keeper commits doubt

-- what a read of its disk gives, where it has a disk that tells it, is so
abbrev pub AnyReads : {D : Type 0} {disking : Ghosts D} → AnyKeeper D disking → (List ℕ → Type 0) → Type 0
AnyReads (Memory keeper) P = Unit {0}
AnyReads {disking = disking} (Journal keeper) P = Reads disking (journal.disk_in keeper) P

-- its disk has just these commits
abbrev pub HasJust : {D : Type 0} {disking : Ghosts D} → AnyKeeper D disking → List Changes → Type 0
HasJust keeper commits = AnyReads keeper (λ bytes. IsHistory bytes commits)

-- its journal, where it has one, is not torn: no commit failed at its gate since the last one that was made, or that repaired it
abbrev pub IsWhole : {D : Type 0} {disking : Ghosts D} → AnyKeeper D disking → Type 0
IsWhole (Memory keeper) = Unit {0}
IsWhole (Journal keeper) = torn_of (journal.journal_in keeper) ≡ false

-- its disk, where it has one
abbrev pub any_disk : {D : Type 0} {disking : Ghosts D} → AnyKeeper D disking → Option D
any_disk (Memory keeper) = None
any_disk (Journal keeper) = Some (journal.disk_in keeper)

pub any_at_rest : {D : Type 0} {disking : Ghosts D} (keeper : AnyKeeper D disking) → any_leads keeper [] keeper
any_at_rest (Memory keeper) = tt
any_at_rest (Journal keeper) = refl

pub any_goes_on : {D : Type 0} {disking : Ghosts D} (first mid last : AnyKeeper D disking) (before behind : List (Option Changes)) → any_leads first before mid → any_leads mid behind last → any_leads first (before ++ behind) last
any_goes_on (Memory first) (Memory mid) (Memory last) before behind led goes = tt
any_goes_on (Journal first) (Journal mid) (Journal last) before behind led goes = leads_on first mid last before behind led goes
any_goes_on (Memory first) (Memory mid) (Journal last) before behind led goes = absurd goes
any_goes_on (Memory first) (Journal mid) last before behind led goes = absurd led
any_goes_on (Journal first) (Memory mid) last before behind led goes = absurd led
any_goes_on (Journal first) (Journal mid) (Memory last) before behind led goes = absurd goes
