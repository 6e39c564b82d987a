-- Files of the bodies of a journal while one more is stored.
use Rattle.std.specs.Prelude.{ℕ, List, Option}
use Rattle.side_world.specs.declared.disk.Disk.{Ghosts}
use Rattle.disk_journal.specs.AnyRun as any
use Rattle.disk_journal.specs.Image.{IsImage}
use Rattle.disk_journal.specs.Journal.{Holds}
use Rattle.disk_journal.specs.OneMore.{WithDoubt, WithOneAtMost}
use Rattle.disk_journal.specs.declared.journal.Journal.{Journal}

-- a file of these bodies, or of them and of one of two others
abbrev pub IsWithOneAtMost : List (List ℕ) → Option (List ℕ) → List ℕ → List ℕ → Type 0
IsWithOneAtMost bodies doubt body bytes = WithOneAtMost (IsImage bytes) bodies doubt body

-- a file of these bodies, or of them and of the one in doubt
abbrev pub IsWithDoubt : List (List ℕ) → Option (List ℕ) → List ℕ → Type 0
IsWithDoubt bodies doubt bytes = WithDoubt (IsImage bytes) bodies doubt

-- after a body that was not stored: the journal holds what it held, and in doubt is what was, or nothing, or that body
abbrev pub HoldsAsBefore : {D : Type 0} (disking : Ghosts D) → Journal D disking → List (List ℕ) → Option (List ℕ) → List ℕ → Type 0
HoldsAsBefore disking = any.HoldsAsBefore (Holds disking)
