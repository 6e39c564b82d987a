-- Disks of keepers that go back to the paths of their journals.
use Rattle.std.specs.Prelude.{◌≡◌, ℕ, ◌+◌, List, [], ◌∷◌, Option, Some}
use Rattle.side_world.specs.declared.disk.Disk.{Ghosts}
use Rattle.side_world.specs.Outside.{Disks, IsGiven}
use Rattle.keeper_journal.specs.JournalKeeper.{disk_in}
use Rattle.keeper_journal.specs.declared.journal_keeper.JournalKeeper.{JournalKeeper}
use Rattle.keeper_journal.specs.declared.any_keeper.AnyKeeper.{AnyKeeper}
use Rattle.keeper_journal.specs.declared.any_keeper.AnyKeeper.TheVariants.{Memory, Journal}
use Rattle.resource_spec.specs.Component.{Loaded}
use Rattle.resource_spec.specs.Load.{journal_of}

module _ {D : Type 0} (disking : Ghosts D) where
  -- the disk of a keeper over a journal is held at the path of its component
  pub record IsBackAt (c : Loaded) (keeper : JournalKeeper D disking) (before after : Option Disks) : Type 0 where
    pub path : List ℕ
    pub named : journal_of c ≡ Some path
    pub given : IsGiven disking (disk_in keeper) path before after

  abbrev pub IsBack : Loaded → AnyKeeper D disking → Option Disks → Option Disks → Type 0
  IsBack c (Memory keeper) before after = after ≡ before
  IsBack c (Journal keeper) before after = IsBackAt c keeper before after

  -- the disk of each keeper that has one went back, in order
  abbrev pub AreBack : List Loaded → List (AnyKeeper D disking) → Option Disks → Option Disks → Type 0
  AreBack [] [] before after = after ≡ before
  AreBack (c ∷ stores) (keeper ∷ keepers) before after = (mid : Option Disks) × IsBack c keeper before mid × AreBack stores keepers mid after
  AreBack [] (keeper ∷ keepers) before after = ⊥
  AreBack (c ∷ stores) [] before after = ⊥

  -- the faults of a keeper's disk
  abbrev pub faults_on_disk : AnyKeeper D disking → ℕ
  faults_on_disk (Memory keeper) = 0
  faults_on_disk (Journal keeper) = disking.faults (disk_in keeper)

  -- the faults of all their disks
  abbrev pub faults_on_disks : List (AnyKeeper D disking) → ℕ
  faults_on_disks [] = 0
  faults_on_disks (keeper ∷ keepers) = faults_on_disk keeper + faults_on_disks keepers
