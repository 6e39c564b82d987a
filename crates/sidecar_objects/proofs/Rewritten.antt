-- Lists that are lent whole and written back.
use Rattle.std.proofs.Common.{◌≡◌, ◌∙◌, ℕ, List, ◌++◌, length, take, drop, sym, ap, subst}
use Rattle.std.proofs.Math.Seq.{take-append_seam}
use Rattle.std.proofs.lemmas.List.{length-map}
use Rattle.turn_cell.specs.declared.object.Object.{Ghosts}
use Rattle.turn_cell.specs.Sitting.{Begun, Sitting, parent_of}
use Rattle.turn_cell.specs.Passes.{EachSplit, EachMet}

-- what holds of two lists holds of what they were lent as
pub lent : {A B : Type 0} (P : List A → List B → Type 0) {xs xs' : List A} {ys ys' : List B} → xs' ≡ xs → ys' ≡ ys → P xs ys → P xs' ys'
lent {A} {B} P e f holds = subst (λ (z : List A × List B). P z.0 z.1) (λ i. (sym e i, sym f i)) holds

-- as many elements written over a list are the list
written : {A : Type 0} (n : ℕ) (old new : List A) → n ≡ length old → length new ≡ length old → take n (new ++ drop (length new) old) ≡ new
written n old new long wide = ap (λ (m : ℕ). take m (new ++ drop (length new) old)) (long ∙ sym wide) ∙ take-append_seam new (drop (length new) old)

module _ {O C R : Type 0} where
  -- the roots of a kind were split
  pub split_lent : (n : ℕ) (roots roots' after other : List (Sitting O C R)) → n ≡ length roots → roots' ≡ roots → EachSplit roots' after other → EachSplit roots (take n (after ++ drop (length after) roots)) other
  split_lent n roots roots' after other long same split =
      let done : EachSplit roots after other = subst (λ l. EachSplit l after other) same split in
      let wide : length after ≡ length roots = ap length done.0 ∙ length-map roots parent_of in
      (written n roots after long wide ∙ done.0, done.1)

  -- the roots of a kind met others
  pub met_lent : (object : Ghosts O C R) (n : ℕ) (cells cells' : List (Begun O)) (roots roots' others after : List (Sitting O C R)) → n ≡ length roots → cells' ≡ cells → roots' ≡ roots → EachMet object cells' roots' others after
      → EachMet object cells roots others (take n (after ++ drop (length after) roots))
  met_lent object n cells cells' roots roots' others after long same-cells same met =
      let done : EachMet object cells roots others after = subst (λ (z : List (Begun O) × List (Sitting O C R)). EachMet object z.0 z.1 others after) (λ i. (same-cells i, same i)) met in
      subst (λ l. EachMet object cells roots others l) (sym (written n roots after long done.wide)) done
