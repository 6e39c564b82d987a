-- What may be done to all seats of a pass, and what closing all cells gives.
use Rattle.std.specs.Prelude.{◌≡◌, ℕ, ◌<◌, true, List, [], ◌∷◌, Option, None}
use Rattle.turn_cell.specs.declared.entry.Entry.{Entry}
use Rattle.turn_cell.specs.Sitting.{Begun, Sitting, IsSeatOf, either_count}
use Rattle.turn_cell.specs.Passes.{EachSeat}

module _ {O C R : Type 0} where
  -- each is the root of its cell, of which fewer than 65,536 seats were made
  abbrev pub MayEachSplit : List (Begun O) → List (Sitting O C R) → Type 0
  MayEachSplit = EachSeat (λ cell seat. IsSeatOf cell seat × (seat.is_root ≡ true) × (seat.made < 65536))

  -- each is the root of its cell
  abbrev pub EachMayMeet : List (Begun O) → List (Sitting O C R) → Type 0
  EachMayMeet = EachSeat (λ cell seat. IsSeatOf cell seat × (seat.is_root ≡ true))

  -- each object stands for what the seat of its cell has seen
  abbrev pub AreClosed : (O → List (Entry C R) → O → Type 0) → List (Begun O) → List (Sitting O C R) → List O → Type 0
  AreClosed stands [] [] [] = Unit {0}
  AreClosed stands (cell ∷ cells) (seat ∷ seats) (object ∷ objects) = stands cell.first seat.seen object × AreClosed stands cells seats objects
  AreClosed stands _ _ _ = ⊥

  -- the first count that one of these seats shows
  abbrev pub count_shown : List (Sitting O C R) → Option ℕ
  count_shown [] = None
  count_shown (seat ∷ seats) = either_count seat.count (count_shown seats)
