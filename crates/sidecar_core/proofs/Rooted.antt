-- The pass of cells that have just begun.
use Rattle.std.specs.Prelude.{◌≡◌, List, map, refl}
use Rattle.std.proofs.Common.{sym, subst}
use Rattle.std.proofs.lemmas.List.{length-map}
use Rattle.atomic_table.proofs.Lists.{at_map}
use Rattle.turn_cell.specs.Sitting.{Begun, Sitting, IsSeatOf, root_of}
use Rattle.turn_cell.specs.Passes.{IsRootOf, EachSeated, EachAlone}
use Rattle.turn_cell.proofs.Lists.{one_place}
use Rattle.turn_cell.proofs.Passes.{each_weaker}
use Rattle.sidecar_objects.specs.Kind.{CellsAt, SeatsAt, cells_in, seats_in}
use Rattle.sidecar_objects.specs.Passes.{AreRoots, IsLone, IsPassOf}

module _ {O C R : Type 0} (cells : List (Begun O)) (seats : List (Sitting O C R)) where
  -- the roots of cells that have just begun are alone
  roots_alone : seats ≡ map root_of cells → EachAlone cells seats
  roots_alone are = subst (λ (l : List (Sitting O C R)). EachAlone cells l) (sym are) record {
    wide = length-map cells root_of;
    each = λ k cell seat at here. subst (λ (s : Sitting O C R). IsRootOf 0 cell s) (one_place (map root_of cells) k (root_of cell) seat (at_map root_of cells k cell at) here) ((refl, refl), refl, refl);
  }

  -- and seats of these cells
  roots_seated : seats ≡ map root_of cells → EachSeated cells seats
  roots_seated are = each_weaker (IsRootOf 0) IsSeatOf cells seats (λ cell seat is. is.0) (roots_alone are)

-- the pass of the roots is alone, and one of the cells
pub pass_alone : {O : Type 0} (cells : CellsAt O) (seats : SeatsAt O) → AreRoots cells seats → IsLone cells seats
pass_alone cells seats are = record { each = λ kind. roots_alone (cells_in cells kind) (seats_in seats kind) (are.each kind) }

pub pass_seated : {O : Type 0} (cells : CellsAt O) (seats : SeatsAt O) → AreRoots cells seats → IsPassOf cells seats
pass_seated cells seats are = record { each = λ kind. roots_seated (cells_in cells kind) (seats_in seats kind) (are.each kind) }
