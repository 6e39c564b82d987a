-- What one step of an object does to the histories that it stands for.
use Rattle.std.specs.Prelude.{ℕ, List, [], ◌∷◌, ◌++◌}
use Rattle.turn_cell.specs.declared.entry.Entry.{Entry}

module _ {S C R : Type 0} (takes : S → C → Type 0) (steps : S → List (Entry C R) → Entry C R → Type 0) (stands : S → List (Entry C R) → S → Type 0) where
  -- an entry is a step after a history, and the object stands for the history with it
  abbrev pub IsAdded : S → List (Entry C R) → Entry C R → S → Type 0
  IsAdded first history entry new = steps first history entry × stands first (history ++ entry ∷ []) new

  -- for each history that the object before stands for, and each seat, the command with its reply and mark is one entry more
  abbrev pub MakesStep : S → S → C → R → ℕ → Type 0
  MakesStep old new cmd reply mark =
      (first : S) (history : List (Entry C R)) (seat : ℕ) → stands first history old → takes first cmd → IsAdded first history (record { seat = seat; cmd = cmd; reply = reply; mark = mark }) new
