-- A run of appends and repairs on one journal.
use Rattle.std.specs.Prelude.{◌≡◌, ℕ, List, Option}
use Rattle.side_world.specs.declared.disk.Disk.{Ghosts}
use Rattle.disk_journal.specs.declared.journal.Journal.{Journal}
use Rattle.disk_journal.specs.AnyRun as any
use Rattle.disk_journal.specs.AnyRun.{OfRun}
use Rattle.disk_journal.specs.Image.{IsImage}
use Rattle.disk_journal.specs.Journal.{disk_of, Holds}

-- these bodies, then those that the first of some calls acknowledged, then at most one more
abbrev pub AreOfRun : List (List ℕ) → List (Option (List ℕ)) → List (List ℕ) → Type 0
AreOfRun bodies answers found = OfRun (λ all. found ≡ all) bodies answers

module _ {D : Type 0} (disking : Ghosts D) where
  -- A call on a journal with this answer: the journal then holds what it held, and what was acknowledged. A crash at any moment of the
  -- call leaves what it held, and at most one more.
  abbrev pub IsCall : Journal D disking → Journal D disking → Option (List ℕ) → Type 0
  IsCall = any.IsCall disking disk_of (Holds disking) IsImage

  -- between these calls and those behind them, and at each moment of the latter, a crash leaves what was held, what was acknowledged, and at most one more
  abbrev pub LeavesWhatWasMade : Journal D disking → Journal D disking → Journal D disking → List (Option (List ℕ)) → List (Option (List ℕ)) → List (List ℕ) → Option (List ℕ) → Type 0
  LeavesWhatWasMade = any.LeavesWhatWasMade disking disk_of (Holds disking) IsImage

  -- this is so of each run, where the disk tells what a crash in it may have left
  abbrev pub AfterACrash : {E : Type 0} → Ghosts E → E → (List (List ℕ) → List (Option (List ℕ)) → List (Option (List ℕ)) → Type 0) → Type 0
  AfterACrash other disk Then = any.AfterACrash disking disk_of (Holds disking) IsImage other disk Then
