-- What steps of a breaker do to a guard that holds a seat of it.
use Rattle.std.specs.Prelude.{◌≡◌, ℕ, List, [], ◌++◌, Result, Ok, Err, refl}
use Rattle.std.proofs.Common.{◌∙◌, subst, sym}
use Rattle.breaker_core.specs.declared.breaker.Breaker.{Breaker}
use Rattle.breaker_core.specs.declared.command.BreakerCmd.{BreakerCmd}
use Rattle.breaker_core.specs.declared.command.BreakerReply.{BreakerReply}
use Rattle.breaker_core.specs.Course.{Step}
use Rattle.turn_cell.specs.declared.error.Exhausted.{Exhausted}
use Rattle.policy_run.specs.declared.guard.Stepped.{Stepped}
use Rattle.policy_run.specs.declared.guard.Stepped.TheVariants as stepped
use Rattle.turn_cell.specs.declared.object.Object.{Ghosts}
use Rattle.turn_cell.specs.Sitting.{Begun, Sitting, IsSeatOf}
use Rattle.turn_cell.specs.Growth.{Grew}
use Rattle.turn_cell.proofs.Growing.{grew_none, grew_more, still_of}

-- what a call of the breaker's cell came to
abbrev pub stepped_of : Result BreakerReply Exhausted → Stepped
stepped_of (Ok reply) = stepped.Answered reply
stepped_of (Err exhausted) = stepped.Exhausted exhausted.count

-- what a seat of a breaker's cell shows, and what the breaker is as an object
abbrev pub BreakerSeat : Type 0
BreakerSeat = Sitting Breaker BreakerCmd BreakerReply

abbrev pub BreakerGhosts : Type 1
BreakerGhosts = Ghosts Breaker BreakerCmd BreakerReply

-- the guard still holds the same seat of the same cell, and the seat made these steps
pub record Kept (object : BreakerGhosts) (cell : Begun Breaker) (name : ℕ) (seat : BreakerSeat) (steps : List Step) (cell' : Begun Breaker) (name' : ℕ) (seat' : BreakerSeat) : Type 0 where
  pub same_cell : cell' ≡ cell
  pub same_seat : name' ≡ name
  pub grew : Grew object cell.first seat steps seat'

module _ (object : BreakerGhosts) where
  pub kept_none : (cell : Begun Breaker) (name : ℕ) (seat : BreakerSeat) → Kept object cell name seat [] cell name seat
  kept_none cell name seat = record { same_cell = refl; same_seat = refl; grew = grew_none object cell.first seat }

  pub kept_more : (cell : Begun Breaker) (name : ℕ) (seat : BreakerSeat) (first : List Step) (cell' : Begun Breaker) (name' : ℕ) (seat' : BreakerSeat) (second : List Step) (cell'' : Begun Breaker) (name'' : ℕ) (seat'' : BreakerSeat)
      → Kept object cell name seat first cell' name' seat' → Kept object cell' name' seat' second cell'' name'' seat'' → Kept object cell name seat (first ++ second) cell'' name'' seat''
  kept_more cell name seat first cell' name' seat' second cell'' name'' seat'' h k = record {
    same_cell = k.same_cell ∙ h.same_cell;
    same_seat = k.same_seat ∙ h.same_seat;
    grew = grew_more object cell.first seat first seat' second seat'' h.grew (subst (λ z. Grew object z.first seat' second seat'') h.same_cell k.grew);
  }

  pub kept_stays : (cell : Begun Breaker) (name : ℕ) (seat : BreakerSeat) (steps : List Step) (cell' : Begun Breaker) (name' : ℕ) (seat' : BreakerSeat)
      → IsSeatOf cell seat → Kept object cell name seat steps cell' name' seat' → IsSeatOf cell' seat'
  kept_stays cell name seat steps cell' name' seat' of k = subst (λ z. IsSeatOf z seat') (sym k.same_cell) (still_of object cell seat steps seat' k.grew of)
