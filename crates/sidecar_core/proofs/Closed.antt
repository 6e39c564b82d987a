-- Closing gives as many objects as there are cells.
use Rattle.std.proofs.Common.{◌≡◌, suc, List, [], ◌∷◌, length, refl, ap}
use Rattle.turn_cell.specs.declared.entry.Entry.{Entry}
use Rattle.turn_cell.specs.Sitting.{Begun, Sitting}
use Rattle.turn_pass.specs.Pass.{AreClosed}

pub as_wide : {O C R : Type 0} (stands : O → List (Entry C R) → O → Type 0) (cells : List (Begun O)) (seats : List (Sitting O C R)) (objects : List O) → AreClosed stands cells seats objects → length objects ≡ length cells
as_wide stands [] [] [] closed = refl
as_wide stands [] [] (object ∷ objects) closed = absurd closed
as_wide stands [] (seat ∷ seats) [] closed = absurd closed
as_wide stands [] (seat ∷ seats) (object ∷ objects) closed = absurd closed
as_wide stands (cell ∷ cells) [] [] closed = absurd closed
as_wide stands (cell ∷ cells) [] (object ∷ objects) closed = absurd closed
as_wide stands (cell ∷ cells) (seat ∷ seats) [] closed = absurd closed
as_wide stands (cell ∷ cells) (seat ∷ seats) (object ∷ objects) closed = ap suc (as_wide stands cells seats objects closed.1)
