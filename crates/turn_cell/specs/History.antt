-- Histories: lists of entries, the oldest first.
use Rattle.std.specs.Prelude.{◌≡◌, ℕ, ◌==◌, List, ◌∷◌, ◌++◌, filter}
use Rattle.turn_cell.specs.declared.entry.Entry.{Entry}
use Rattle.turn_cell.specs.declared.object.Object.{Ghosts}

-- the entries of the seat with this number, in order
abbrev pub entries_of : {C R : Type 0} → ℕ → List (Entry C R) → List (Entry C R)
entries_of number history = filter (λ entry. entry.seat == number) history

-- From the object `first`, each command was one that the object takes there, and each entry is a step after those before it
pub record IsLegal {O C R : Type 0} (object : Ghosts O C R) (first : O) (history : List (Entry C R)) : Type 0 where
  pub each : (before after : List (Entry C R)) (entry : Entry C R) → history ≡ before ++ entry ∷ after → object.takes first entry.cmd × object.steps first before entry
