-- What a keeper over a journal shows.
use Rattle.std.specs.Prelude.{ℕ, ◌+◌, List}
use Rattle.std.specs.declared.hash.DefaultHasher.{DefaultHasher}
use Rattle.side_world.specs.declared.disk.Disk.{Ghosts}
use Rattle.keeper_core.specs.Rows.{Rows}
use Rattle.keeper_core.specs.declared.changes.Change.{Change}
use Rattle.disk_journal.specs.Journal.{disk_of, len_of, limit_of}
use Rattle.disk_journal.specs.declared.journal.Journal.{Journal}
use Rattle.keeper_journal.specs.Body.{body_len}
use Rattle.keeper_journal.specs.declared.journal_keeper.JournalKeeper.{JournalKeeper}

abbrev pub rows_in : {D : Type 0} {disking : Ghosts D} → JournalKeeper D disking → Rows
rows_in keeper = keeper.table.rows

-- the hasher that keys are fed to
abbrev pub hasher_in : {D : Type 0} {disking : Ghosts D} → JournalKeeper D disking → DefaultHasher
hasher_in keeper = keeper.table.hasher

abbrev pub next_in : {D : Type 0} {disking : Ghosts D} → JournalKeeper D disking → ℕ
next_in keeper = keeper.next

abbrev pub journal_in : {D : Type 0} {disking : Ghosts D} → JournalKeeper D disking → Journal D disking
journal_in keeper = keeper.journal

abbrev pub disk_in : {D : Type 0} {disking : Ghosts D} → JournalKeeper D disking → D
disk_in keeper = disk_of keeper.journal

-- the length of its file behind the last record
abbrev pub size_in : {D : Type 0} {disking : Ghosts D} → JournalKeeper D disking → ℕ
size_in keeper = len_of keeper.journal

abbrev pub limit_in : {D : Type 0} {disking : Ghosts D} → JournalKeeper D disking → ℕ
limit_in keeper = limit_of keeper.journal

-- that length with one more record, of these changes
abbrev pub size_with : ℕ → List Change → ℕ
size_with size list = size + 9 + body_len list
