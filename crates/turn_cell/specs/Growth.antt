-- How seats grow by calls: one seat, and each of a list of seats that stand at the places of a list of cells.
use Rattle.std.specs.Prelude.{◌≡◌, ℕ, List, ◌++◌, length, IsSome}
use mathlib.Core.Option.{some}
use mathlib.Core.List.{IsPrefix}
use lib.ListN.{get_elem?}
use Rattle.turn_cell.specs.declared.entry.Entry.{Entry}
use Rattle.turn_cell.specs.declared.object.Object.{Ghosts}
use Rattle.turn_cell.specs.Sitting.{Begun, Sitting, IsAlone, IsSound}

module _ {O C R : Type 0} where
  -- what calls leave as it is: all but what the seat has seen and done, and its count
  abbrev pub Stays : Sitting O C R → Sitting O C R → Type 0
  Stays seat after = after ≡ record seat { seen = after.seen; mine = after.mine; count = after.count }

-- The seat made the steps `made` of its own, in order, and what it showed before it still shows
pub record Grew {O C R : Type 0} (object : Ghosts O C R) (first : O) (seat : Sitting O C R) (made : List (Entry C R)) (after : Sitting O C R) : Type 0 where
  pub seen : IsPrefix seat.seen after.seen
  pub mine : after.mine ≡ seat.mine ++ made
  pub alone : IsAlone seat → after.seen ≡ seat.seen ++ made
  pub count : IsSome seat.count → IsSome after.count
  pub stays : Stays seat after
  pub sound : IsSound object first seat → IsSound object first after

-- at each place k, the seat of the cell there made the steps `made k`
pub record EachGrew {O C R : Type 0} (object : Ghosts O C R) (cells : List (Begun O)) (seats : List (Sitting O C R)) (made : ℕ → List (Entry C R)) (after : List (Sitting O C R)) : Type 0 where
  pub wide : length after ≡ length seats
  pub each : (k : ℕ) (cell : Begun O) (seat seat' : Sitting O C R) → get_elem? cells k ≡ some cell → get_elem? seats k ≡ some seat → get_elem? after k ≡ some seat' → Grew object cell.first seat (made k) seat'
