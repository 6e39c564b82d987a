-- Whole passes: lists of seats that stand at the places of a list of cells, and what is done to all of them.
use Rattle.std.specs.Prelude.{◌≡◌, ℕ, ◌<◌, ◌≤◌, true, false, List, ◌++◌, length, map, take, drop}
use mathlib.Core.Option.{some}
use lib.ListN.{get_elem?}
use Rattle.turn_cell.specs.declared.object.Object.{Ghosts}
use Rattle.turn_cell.specs.Sitting.{Begun, Sitting, IsSeatOf, IsSound, Meets, parent_of, child_of}

module _ {O C R : Type 0} where
  -- the root of this cell, with `out` seats that are split off and not met
  abbrev pub IsRootOf : ℕ → Begun O → Sitting O C R → Type 0
  IsRootOf out cell seat = IsSeatOf cell seat × (seat.is_root ≡ true) × (seat.out ≡ out)

  -- a seat that was split off the root of this cell
  abbrev pub IsSplitOff : Begun O → Sitting O C R → Type 0
  IsSplitOff cell seat = IsSeatOf cell seat × (seat.is_root ≡ false)

-- as many seats as cells, and P holds of each seat and the cell at its place
pub record EachSeat {O C R : Type 0} (P : Begun O → Sitting O C R → Type 0) (cells : List (Begun O)) (seats : List (Sitting O C R)) : Type 0 where
  pub wide : length seats ≡ length cells
  pub each : (k : ℕ) (cell : Begun O) (seat : Sitting O C R) → get_elem? cells k ≡ some cell → get_elem? seats k ≡ some seat → P cell seat

module _ {O C R : Type 0} where
  -- each is a seat of its cell
  abbrev pub EachSeated : List (Begun O) → List (Sitting O C R) → Type 0
  EachSeated = EachSeat IsSeatOf

  -- each is the root of its cell, with `out` seats that are split off and not met
  abbrev pub EachRoot : ℕ → List (Begun O) → List (Sitting O C R) → Type 0
  EachRoot out = EachSeat (IsRootOf out)

  -- each is the root of its cell, with every other seat met: each cell may be closed
  abbrev pub EachAlone : List (Begun O) → List (Sitting O C R) → Type 0
  EachAlone = EachRoot 0

  -- each was split off the root of its cell: each may be met
  abbrev pub EachSplitOff : List (Begun O) → List (Sitting O C R) → Type 0
  EachSplitOff = EachSeat IsSplitOff

  -- what holds of every seat, of each
  abbrev pub EachSound : Ghosts O C R → List (Begun O) → List (Sitting O C R) → Type 0
  EachSound object = EachSeat (λ cell seat. IsSound object cell.first seat)

  -- Each of the roots was split: they are `after` then, and the seats that were split off are `pass`
  abbrev pub EachSplit : List (Sitting O C R) → List (Sitting O C R) → List (Sitting O C R) → Type 0
  EachSplit roots after pass = (after ≡ map parent_of roots) × (pass ≡ map child_of roots)

  -- as far as the place n
  abbrev pub SplitTo : ℕ → List (Sitting O C R) → List (Sitting O C R) → List (Sitting O C R) → Type 0
  SplitTo n roots after pass = (after ≡ map parent_of (take n roots) ++ drop n roots) × (pass ≡ map child_of (take n roots))

-- Each of the roots met the seat of `others` at its place: they are `after` then
pub record EachMet {O C R : Type 0} (object : Ghosts O C R) (cells : List (Begun O)) (roots others after : List (Sitting O C R)) : Type 0 where
  pub wide : length after ≡ length roots
  pub each : (k : ℕ) (cell : Begun O) (root other root' : Sitting O C R) → get_elem? cells k ≡ some cell → get_elem? roots k ≡ some root → get_elem? others k ≡ some other → get_elem? after k ≡ some root' → Meets object cell.first root other root'

-- as far as the place n; the roots from there on are as they were
pub record MetTo {O C R : Type 0} (object : Ghosts O C R) (n : ℕ) (cells : List (Begun O)) (roots others after : List (Sitting O C R)) : Type 0 where
  pub wide : length after ≡ length roots
  pub met : (k : ℕ) (cell : Begun O) (root other root' : Sitting O C R) → k < n → get_elem? cells k ≡ some cell → get_elem? roots k ≡ some root → get_elem? others k ≡ some other → get_elem? after k ≡ some root' → Meets object cell.first root other root'
  pub rest : (k : ℕ) → n ≤ k → get_elem? after k ≡ get_elem? roots k
