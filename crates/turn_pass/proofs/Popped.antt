-- The last cell of a list, and its seat.
use Rattle.std.proofs.Common.{◌≡◌, ℕ, zero, suc, List, [], ◌∷◌, ◌++◌, length, reverse, sym, subst, ◌∙◌, arith, length-append, append_assoc, append-nil}
use Rattle.std.proofs.lemmas.List.{reverse-append}
use mathlib.Core.Option.{some, some-ne-none}
use lib.ListN.{get_elem?}
use Rattle.turn_cell.specs.Sitting.{Begun, Sitting}
use Rattle.turn_cell.specs.declared.entry.Entry.{Entry}
use Rattle.turn_cell.specs.Passes.{EachSeat}
use Rattle.turn_pass.specs.Pass.{AreClosed}
use Rattle.turn_cell.proofs.Lists.{at_seam}

front_at : {A : Type 0} (xs ys : List A) (k : ℕ) (a : A) → get_elem? xs k ≡ some a → get_elem? (xs ++ ys) k ≡ some a
front_at [] ys k a e = absurd (some-ne-none a (sym e))
front_at (x ∷ xs) ys zero a e = e
front_at (x ∷ xs) ys (suc k) a e = front_at xs ys k a e

module _ {O C R : Type 0} (P : Begun O → Sitting O C R → Type 0) (cells : List (Begun O)) (seats : List (Sitting O C R)) (cell : Begun O) (seat : Sitting O C R) (all : EachSeat P (cells ++ cell ∷ []) (seats ++ seat ∷ [])) where
  same_width : length seats ≡ length cells
  same_width = omega (arith, all.wide, length-append cells (cell ∷ []), length-append seats (seat ∷ []))

  -- what holds of each holds of the last
  pub last_seat : P cell seat
  last_seat = all.each (length cells) cell seat (at_seam cells cell []) (subst (λ (n : ℕ). get_elem? (seats ++ seat ∷ []) n ≡ some seat) same_width (at_seam seats seat []))

  -- and of those before it
  pub other_seats : EachSeat P cells seats
  other_seats = record {
    wide = same_width;
    each = λ k cell' seat' at here. all.each k cell' seat' (front_at cells (cell ∷ []) k cell' at) (front_at seats (seat ∷ []) k seat' here);
  }

-- so far the last cells are closed: these objects, in the order that is reversed, stand for what their seats have seen
pub record Closing {O C R : Type 0} (stands : O → List (Entry C R) → O → Type 0) (cells : List (Begun O)) (seats : List (Sitting O C R)) (cells-left : List (Begun O)) (seats-left : List (Sitting O C R)) (objects : List O) : Type 0 where
  pub closed-cells : List (Begun O)
  pub closed-seats : List (Sitting O C R)
  pub cells-are : cells ≡ cells-left ++ closed-cells
  pub seats-are : seats ≡ seats-left ++ closed-seats
  pub closed : AreClosed stands closed-cells closed-seats (reverse objects)

module _ {O C R : Type 0} (stands : O → List (Entry C R) → O → Type 0) (cells : List (Begun O)) (seats : List (Sitting O C R)) where
  pub none_closed : Closing stands cells seats cells seats []
  none_closed = record { closed-cells = []; closed-seats = []; cells-are = sym (append-nil cells); seats-are = sym (append-nil seats); closed = tt }

  pub one_closed : (cells-left : List (Begun O)) (seats-left : List (Sitting O C R)) (objects : List O) (cell : Begun O) (seat : Sitting O C R) (object : O) → Closing stands cells seats (cells-left ++ cell ∷ []) (seats-left ++ seat ∷ []) objects → stands cell.first seat.seen object
      → Closing stands cells seats cells-left seats-left (objects ++ object ∷ [])
  one_closed cells-left seats-left objects cell seat object so-far is = record {
    closed-cells = cell ∷ so-far.closed-cells;
    closed-seats = seat ∷ so-far.closed-seats;
    cells-are = so-far.cells-are ∙ append_assoc cells-left (cell ∷ []) so-far.closed-cells;
    seats-are = so-far.seats-are ∙ append_assoc seats-left (seat ∷ []) so-far.closed-seats;
    closed = subst (λ (l : List O). AreClosed stands (cell ∷ so-far.closed-cells) (seat ∷ so-far.closed-seats) l) (sym (reverse-append objects (object ∷ []))) (is, so-far.closed);
  }

  pub all_closed : (objects : List O) → Closing stands cells seats [] [] objects → AreClosed stands cells seats (reverse objects)
  all_closed objects done = subst (λ (p : List (Begun O) × List (Sitting O C R)). AreClosed stands p.0 p.1 (reverse objects)) (λ i. (sym done.cells-are i, sym done.seats-are i)) done.closed
