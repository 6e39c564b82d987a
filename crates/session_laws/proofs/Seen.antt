-- What was done for a request stands in the histories that its pass has seen.
use Rattle.std.proofs.Common.{◌≡◌, ◌∙◌, Bool, true, false, cond, List, [], ◌∷◌, ◌++◌, sym, ap, subst, append_assoc}
use Rattle.std.specs.List.{filter}
use Rattle.std.specs.Prelude.{◌==◌}
use Rattle.turn_cell.specs.declared.entry.Entry.{Entry}
use Rattle.turn_cell.specs.declared.object.Object.{Ghosts}
use Rattle.turn_cell.specs.Sitting.{IsSound, Sitting}
use Rattle.turn_cell.specs.Growth.{Grew}
use Rattle.sidecar_objects.specs.Did.{Did}
use Rattle.sidecar_objects.specs.Kind.{CellsAt, Kinds}
use Rattle.session_laws.specs.Served.{Served}
use Rattle.session_laws.specs.Histories.{IsStepIn, StepsStandInHistories}

-- a member of a list, with what stands round it
record Stands {X : Type 0} (x : X) (xs : List X) : Type 0 where
  pub before : List X
  pub later : List X
  pub whole : xs ≡ before ++ x ∷ later

module _ {X : Type 0} (x : X) where
  one_more : (y : X) (xs : List X) → Stands x xs → Stands x (y ∷ xs)
  one_more y xs s = record { before = y ∷ s.before; later = s.later; whole = ap (λ (l : List X). y ∷ l) s.whole }

  -- it stands first, or among the others
  at_head : (y : X) (ys left front later : List X) → ((before : List X) → left ≡ before ++ x ∷ later → Stands x ys) → y ∷ left ≡ front ++ x ∷ later → Stands x (y ∷ ys)
  at_head y ys left [] later among e = record { before = []; later = ys; whole = (let same : y ≡ x = cc in ap (λ (z : X). z ∷ ys) same) }
  at_head y ys left (b ∷ bs) later among e = one_more y ys (among bs (let rest : left ≡ bs ++ x ∷ later = cc in rest))

  by_test : (y : X) (ys left before later : List X) (passes : Bool) → ((front : List X) → left ≡ front ++ x ∷ later → Stands x ys) → cond passes (y ∷ left) left ≡ before ++ x ∷ later → Stands x (y ∷ ys)
  by_test y ys left before later true among e = at_head y ys left before later among e
  by_test y ys left before later false among e = one_more y ys (among before e)

  -- one that a filter leaves
  kept : (test : X → Bool) (xs before later : List X) → filter test xs ≡ before ++ x ∷ later → Stands x xs
  kept test [] [] later is = absurd (cc)
  kept test [] (b ∷ bs) later is = absurd (cc)
  kept test (y ∷ ys) before later is = by_test y ys (filter test ys) before later (test y) (λ front e. kept test ys front later e) is

-- a seat that grew by a step, and is sound, has seen it
pub grown : {O C R : Type 0} (object : Ghosts O C R) (first : O) (seat seat' : Sitting O C R) (earlier later : List (Entry C R)) (step : Entry C R) → Grew object first seat (earlier ++ step ∷ later) seat' → IsSound object first seat' → IsStepIn object first seat'.seen step
grown object first seat seat' earlier later step grew sound =
    let there = kept step (λ entry. entry.seat == seat'.number) seat'.seen (seat.mine ++ earlier) later (sound.own ∙ (grew.mine ∙ sym (append_assoc seat.mine earlier (step ∷ later)))) in
    record { before = there.before; later = there.later; whole = there.whole; follows = (sound.legal.each there.before there.later step there.whole).1 }

pub stand_in_histories : {O : Type 0} (kinds : Kinds O) (cells : CellsAt O) (served : Served O) → Did kinds cells served.before served.events served.after → StepsStandInHistories kinds cells served
stand_in_histories kinds cells served did sound kind place cell seat seat' step at made =
    let grew = (did.grew kind).each place cell seat seat' at.cell_there at.seat_there at.still_there in
    grown (kinds kind) cell.first seat seat' made.earlier made.later step (subst (λ steps. Grew (kinds kind) cell.first seat steps seat') made.whole grew) ((sound.each kind).each place cell seat' at.cell_there at.still_there)
