-- What a journal stands for.
use Rattle.std.specs.Prelude.{◌≡◌, ◌+◌, ℕ, Bool, List, Option, is_some}
use Rattle.side_world.specs.declared.disk.Disk.{Ghosts}
use Rattle.disk_journal.specs.declared.journal.Journal.{Journal}
use Rattle.disk_journal.specs.Image.{end_of, IsFile}
use Rattle.disk_journal.specs.Moments.{Shows}

abbrev pub disk_of : {D : Type 0} {disking : Ghosts D} → Journal D disking → D
disk_of journal = journal.disk

-- the file's length behind the last record: the closed gate stands there
abbrev pub len_of : {D : Type 0} {disking : Ghosts D} → Journal D disking → ℕ
len_of journal = journal.end + 1

-- the greatest such length that an append may lead to
abbrev pub limit_of : {D : Type 0} {disking : Ghosts D} → Journal D disking → ℕ
limit_of journal = journal.limit

abbrev pub torn_of : {D : Type 0} {disking : Ghosts D} → Journal D disking → Bool
torn_of journal = journal.torn

-- The journal holds these bodies. In doubt is the body of an append that failed at its gate and was not repaired, where there is one.
-- Where the disk tells what a read gives, that is a file of them, and all that a crash now may leave is.
pub record Holds {D : Type 0} (disking : Ghosts D) (journal : Journal D disking) (bodies : List (List ℕ)) (doubt : Option (List ℕ)) : Type 0 where
  pub len : len_of journal ≡ end_of bodies + 1
  pub torn : torn_of journal ≡ is_some doubt
  pub file : Shows disking journal.disk (IsFile bodies doubt)
