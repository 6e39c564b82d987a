-- Why a start is refused, and what it leaves of the outside then.
use Rattle.std.specs.Prelude.{◌≡◌, ◌≢◌, ◌⊎◌, ℕ, List, [], ◌∷◌, ◌++◌, Option, Some}
use Rattle.side_world.specs.declared.disk.Disk.{Ghosts}
use Rattle.side_world.specs.declared.outside.OutsideCall.{OutsideCall}
use Rattle.side_world.specs.Faults.{Rose}
use Rattle.side_world.specs.Outside.{Disks, IsNewDisk, IsTaken, IsGiven}
use Rattle.side_world.specs.Told.{Tells}
use Rattle.disk_journal.specs.Moments.{Reads, ChangesNothing}
use Rattle.keeper_journal.specs.History.{IsRefusedAt}
use Rattle.keeper_journal.specs.declared.any_keeper.AnyKeeper.{AnyKeeper}
use Rattle.resource_spec.specs.declared.component.ComponentKind.TheVariants.{StateJournal}
use Rattle.resource_spec.specs.Component.{Loaded}
use Rattle.resource_spec.specs.Load.{journal_of}
use Rattle.sidecar_keepers.specs.declared.starting.KeepersErr.{KeepersErr}
use Rattle.sidecar_keepers.specs.declared.starting.KeepersErr.TheVariants.{NotAJournal, OutsideFailed, DiskFailed, NoMemory}
use Rattle.disk_journal.specs.declared.error.JournalErr.{JournalErr}
use Rattle.disk_journal.specs.declared.error.JournalErr.TheVariants as journals
use Rattle.sidecar_keepers.specs.Made.{AreMade}
use Rattle.sidecar_keepers.specs.Stores.{stores_of, takes_of}

-- the outside's count of faults rose where it failed, or a disk of it did, and stays else
abbrev pub Counts : KeepersErr → ℕ → ℕ → Type 0
Counts (NotAJournal component at) before after = after ≡ before
Counts OutsideFailed before after = Rose before after
Counts DiskFailed before after = Rose before after
Counts NoMemory before after = after ≡ before

-- the answer at a component whose journal refuses its disk so; a name that finds no memory is not told
abbrev pub IsAnswerTo : Loaded → JournalErr → KeepersErr → Type 0
IsAnswerTo c journals.Failed answer = answer ≡ DiskFailed
IsAnswerTo c (journals.NotAJournal at) answer = (answer ≡ NotAJournal c.name at) ⊎ (answer ≡ NoMemory)
IsAnswerTo c (journals.Full len) answer = ⊥
IsAnswerTo c journals.NoMemory answer = answer ≡ NoMemory

module _ {D : Type 0} (disking : Ghosts D) where
  -- the disk at the path of a journal was taken, and came back to that path
  pub record IsReturned (c : Loaded) (before after : Option Disks) (fact : D → D → Type 0) : Type 0 where
    pub kind : c.kind ≡ StateJournal
    pub path : List ℕ
    pub named : journal_of c ≡ Some path
    pub disk : D
    pub back : D
    pub mid : Option Disks
    pub new : IsNewDisk disking disk
    pub taken : IsTaken disking disk path before mid
    pub given : IsGiven disking back path mid after
    pub is_so : fact disk back

  -- its bytes are refused at this place, and it came back as it was
  pub record IsNoJournalAt (at : ℕ) (disk back : D) : Type 0 where
    pub refused : Reads disking disk (λ bytes. IsRefusedAt bytes at)
    pub unchanged : ChangesNothing disking disk back

  -- it failed; one that had bytes came back as it was
  pub record HasFailed (disk back : D) : Type 0 where
    pub failed : Rose 0 (disking.faults back)
    pub unchanged : disking.size disk ≢ 0 → ChangesNothing disking disk back

  -- there was no memory for it, and it came back as it was
  pub record IsUnread (disk back : D) : Type 0 where
    pub no_fault : disking.faults back ≡ 0
    pub unchanged : ChangesNothing disking disk back

  -- the cause of an answer at a component, and what it does to the disks
  abbrev pub IsCause : KeepersErr → Loaded → Option Disks → Option Disks → Type 0
  IsCause (NotAJournal component at) c before after = (component ≡ c.name) × IsReturned c before after (IsNoJournalAt at)
  IsCause OutsideFailed c before after = (c.kind ≡ StateJournal) × (after ≡ before)
  IsCause DiskFailed c before after = IsReturned c before after HasFailed
  IsCause NoMemory c before after = IsReturned c before after IsUnread

  -- keepers were made for the components before one of them, at which the start was refused; the disks that were taken up to it are those
  -- of the journals up to it, in order
  pub record IsRefusedAtOne (components : List Loaded) (e : KeepersErr) (before after : Option Disks) (calls calls' : Option (List OutsideCall)) : Type 0 where
    pub front : List Loaded
    pub c : Loaded
    pub behind : List Loaded
    pub in_order : components ≡ front ++ c ∷ behind
    pub keepers : List (AnyKeeper D disking)
    pub mid : Option Disks
    pub made : AreMade disking (stores_of front) keepers before mid
    pub cause : IsCause e c mid after
    pub takes : Tells calls calls' (takes_of (front ++ c ∷ []))

  -- nothing was done for want of memory
  pub record IsNotBegun (e : KeepersErr) (before after : Option Disks) (calls calls' : Option (List OutsideCall)) : Type 0 where
    pub cause : e ≡ NoMemory
    pub disks : after ≡ before
    pub takes : calls' ≡ calls

  -- the start of these components was refused
  abbrev pub IsRefused : List Loaded → KeepersErr → Option Disks → Option Disks → Option (List OutsideCall) → Option (List OutsideCall) → Type 0
  IsRefused components e before after calls calls' = IsNotBegun e before after calls calls' ⊎ IsRefusedAtOne components e before after calls calls'
