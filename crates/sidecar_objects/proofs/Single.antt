-- One cell and its seat, as the only ones of their kind.
use Rattle.std.proofs.Common.{◌≡◌, ◌≢◌, ℕ, zero, suc, List, [], ◌∷◌, refl, sym, subst, arith}
use mathlib.Core.Option.{some, some-injective, some-ne-none}
use lib.ListN.{get_elem?}
use Rattle.turn_cell.specs.declared.entry.Entry.{Entry}
use Rattle.turn_cell.specs.declared.object.Object.{Ghosts}
use Rattle.turn_cell.specs.Sitting.{Begun, Sitting, IsSound, Meets}
use Rattle.turn_cell.specs.Passes.{EachSeat, EachMet}
use Rattle.turn_cell.specs.Growth.{Grew, EachGrew}
use Rattle.turn_cell.proofs.Growing.{each_one}
use Rattle.turn_cell.proofs.Passes.{met_none, met_more, met_all}

module _ {O C R : Type 0} (cell : Begun O) (seat : Sitting O C R) where
  pub one_seat : (P : Begun O → Sitting O C R → Type 0) → P cell seat → EachSeat P (cell ∷ []) (seat ∷ [])
  one_seat P holds = record { wide = refl; each = each }
    where
      each : (k : ℕ) (other : Begun O) (there : Sitting O C R) → get_elem? (cell ∷ []) k ≡ some other → get_elem? (seat ∷ []) k ≡ some there → P other there
      each zero other there at here = subst (λ (z : Begun O × Sitting O C R). P z.0 z.1) (λ i. (some-injective cell other at i, some-injective seat there here i)) holds
      each (suc k) other there at here = absurd (some-ne-none other (sym at))

  pub the_seat : (P : Begun O → Sitting O C R → Type 0) → EachSeat P (cell ∷ []) (seat ∷ []) → P cell seat
  the_seat P all = all.each 0 cell seat refl refl

  module _ (object : Ghosts O C R) (after : Sitting O C R) where
    pub one_grew : (made : ℕ → List (Entry C R)) → Grew object cell.first seat (made 0) after → ((k : ℕ) → k ≢ 0 → made k ≡ []) → EachGrew object (cell ∷ []) (seat ∷ []) made (after ∷ [])
    one_grew made grew none-else = each_one object (cell ∷ []) (seat ∷ []) made 0 cell seat after refl refl grew none-else

    pub the_grew : (made : ℕ → List (Entry C R)) → EachGrew object (cell ∷ []) (seat ∷ []) made (after ∷ []) → Grew object cell.first seat (made 0) after
    the_grew made grew = grew.each 0 cell seat after refl refl refl

    pub one_met : (other : Sitting O C R) → Meets object cell.first seat other after → EachMet object (cell ∷ []) (seat ∷ []) (other ∷ []) (after ∷ [])
    one_met other meets = met_all object (cell ∷ []) (seat ∷ []) (other ∷ []) 1 (after ∷ []) (omega arith)
        (met_more object (cell ∷ []) (seat ∷ []) (other ∷ []) 0 (seat ∷ []) cell seat other after (met_none object (cell ∷ []) (seat ∷ []) (other ∷ [])) refl refl refl meets)

    pub the_met : (other : Sitting O C R) → EachMet object (cell ∷ []) (seat ∷ []) (other ∷ []) (after ∷ []) → Meets object cell.first seat other after
    the_met other met = met.each 0 cell seat other after refl refl refl refl

-- what is sound over an object is sound over the same
pub sound_at : {O C R : Type 0} {object : Ghosts O C R} {first first' : O} {seat : Sitting O C R} → first' ≡ first → IsSound object first seat → IsSound object first' seat
sound_at {object = object} {seat = seat} e sound = subst (λ first. IsSound object first seat) (sym e) sound
