-- The growth of seats, put together from call to call.
use Rattle.std.proofs.Common.{◌≡◌, ◌≢◌, ℕ, ◌^◌, ◌<◌, List, [], ◌∷◌, ◌++◌, length, set, IsSome, refl, sym, ap, ◌∙◌, subst, arith, append_assoc, append-nil, length-append, length-set}
use mathlib.Core.Logic.{dite}
use mathlib.Core.Option.{some}
use native.Mathlib.Decide.{ℕ_discrete}
use base.Growing.{prefix_refl, prefix_trans}
use lib.ListN.{get_elem?}
use Rattle.atomic_table.proofs.Lists.{set_here, set_else}
use Rattle.turn_cell.specs.declared.entry.Entry.{Entry}
use Rattle.turn_cell.specs.declared.object.Object.{Ghosts}
use Rattle.turn_cell.specs.Sitting.{Begun, Sitting, IsSeatOf, IsAlone, IsSound, Extends, Exhausts, entry_by}
use Rattle.turn_cell.specs.Growth.{Grew, EachGrew}
use Rattle.turn_cell.proofs.Lists.{in_range, one_place, there}

module _ {O C R : Type 0} (object : Ghosts O C R) (first : O) where
  -- no call
  pub grew_none : (s : Sitting O C R) → Grew object first s [] s
  grew_none s = record { seen = prefix_refl s.seen; mine = sym (append-nil s.mine); alone = λ _. sym (append-nil s.seen); count = λ h. h; stays = refl; sound = λ h. h }

  -- a call that made a step
  pub called : (s : Sitting O C R) (cmd : C) (reply : R) (s' : Sitting O C R) (did : Extends object first s cmd reply s') → Grew object first s (entry_by s cmd reply did.mark ∷ []) s'
  called s cmd reply s' did = let e : Entry C R = entry_by s cmd reply did.mark in let seen-is : s'.seen ≡ (s.seen ++ did.others) ++ e ∷ [] = ap (λ (z : Sitting O C R). z.seen) did.whole in record {
    seen = (did.others ++ e ∷ [], sym (append_assoc s.seen did.others (e ∷ [])) ∙ sym seen-is);
    mine = ap (λ (z : Sitting O C R). z.mine) did.whole;
    alone = λ alone. seen-is ∙ ap (λ (l : List (Entry C R)). (s.seen ++ l) ++ e ∷ []) (did.alone alone) ∙ ap (λ (l : List (Entry C R)). l ++ e ∷ []) (append-nil s.seen);
    count = λ h. subst (λ (z : Sitting O C R). IsSome z.count) (sym did.whole) h;
    stays = subst (λ (z : Sitting O C R). z ≡ record s { seen = z.seen; mine = z.mine; count = z.count }) (sym did.whole) refl;
    sound = λ _. did.sound;
  }

  -- a call that found the cell exhausted
  pub exhausted : (s : Sitting O C R) (n : ℕ) (s' : Sitting O C R) → Exhausts object first s n s' → Grew object first s [] s'
  exhausted s n s' did = let seen-is : s'.seen ≡ s.seen ++ did.others = ap (λ (z : Sitting O C R). z.seen) did.whole in record {
    seen = (did.others, sym seen-is);
    mine = ap (λ (z : Sitting O C R). z.mine) did.whole ∙ sym (append-nil s.mine);
    alone = λ alone. seen-is ∙ ap (λ (l : List (Entry C R)). s.seen ++ l) (did.alone alone);
    count = λ h. subst (λ (z : Sitting O C R). IsSome z.count) (sym did.whole) refl;
    stays = subst (λ (z : Sitting O C R). z ≡ record s { seen = z.seen; mine = z.mine; count = z.count }) (sym did.whole) refl;
    sound = λ _. did.sound;
  }

  alone_after : (s : Sitting O C R) (xs : List (Entry C R)) (s' : Sitting O C R) → Grew object first s xs s' → IsAlone s → IsAlone s'
  alone_after s xs s' g alone = (ap (λ (z : Sitting O C R). z.is_root) g.stays ∙ alone.0, ap (λ (z : Sitting O C R). z.out) g.stays ∙ alone.1)

  -- a call makes a step only where the history has fewer than 2^62 entries
  pub step_room : (s : Sitting O C R) (cmd : C) (reply : R) (s' : Sitting O C R) → Extends object first s cmd reply s' → length s.seen < 2 ^ 62
  step_room s cmd reply s' did = omega (arith, did.sound.short, ap (λ (z : Sitting O C R). length z.seen) did.whole, length-append (s.seen ++ did.others) (entry_by s cmd reply did.mark ∷ []), length-append s.seen did.others)

  -- where a seat that is alone shows a count after calls, it has seen 2^62 entries
  pub full_after : (s : Sitting O C R) (xs : List (Entry C R)) (s' : Sitting O C R) → Grew object first s xs s' → IsSound object first s → IsAlone s → IsSome s'.count → length s'.seen ≡ 2 ^ 62
  full_after s xs s' g ok alone shows = (g.sound ok).full (alone_after s xs s' g alone) shows

  -- some calls, and then others
  pub grew_more : (s : Sitting O C R) (xs : List (Entry C R)) (s' : Sitting O C R) (ys : List (Entry C R)) (s'' : Sitting O C R) → Grew object first s xs s' → Grew object first s' ys s'' → Grew object first s (xs ++ ys) s''
  grew_more s xs s' ys s'' g h = record {
    seen = prefix_trans s.seen s'.seen s''.seen g.seen h.seen;
    mine = h.mine ∙ ap (λ (l : List (Entry C R)). l ++ ys) g.mine ∙ append_assoc s.mine xs ys;
    alone = λ alone. h.alone (alone_after s xs s' g alone) ∙ ap (λ (l : List (Entry C R)). l ++ ys) (g.alone alone) ∙ append_assoc s.seen xs ys;
    count = λ c. h.count (g.count c);
    stays = h.stays ∙ ap (λ (z : Sitting O C R). record z { seen = s''.seen; mine = s''.mine; count = s''.count }) g.stays;
    sound = λ ok. h.sound (g.sound ok);
  }

module _ {O C R : Type 0} (object : Ghosts O C R) where
  -- a seat stays a seat of its cell
  pub still_of : (cell : Begun O) (s : Sitting O C R) (xs : List (Entry C R)) (s' : Sitting O C R) → Grew object cell.first s xs s' → IsSeatOf cell s → IsSeatOf cell s'
  still_of cell s xs s' g of = (ap (λ (z : Sitting O C R). z.table) g.stays ∙ of.0, ap (λ (z : Sitting O C R). z.first) g.stays ∙ of.1)

  module _ (cells : List (Begun O)) where
    -- no call at any place
    pub each_none : (seats : List (Sitting O C R)) (made : ℕ → List (Entry C R)) → ((k : ℕ) → made k ≡ []) → EachGrew object cells seats made seats
    each_none seats made none = record {
      wide = refl;
      each = λ k cell s s' at here here'. subst (λ (z : Sitting O C R × List (Entry C R)). Grew object cell.first s z.1 z.0) (λ i. (one_place seats k s s' here here' i, sym (none k) i)) (grew_none object cell.first s);
    }

    -- calls at the place i alone
    pub each_one : (seats : List (Sitting O C R)) (made : ℕ → List (Entry C R)) (i : ℕ) (cell : Begun O) (s s' : Sitting O C R) → get_elem? cells i ≡ some cell → get_elem? seats i ≡ some s → Grew object cell.first s (made i) s' → ((k : ℕ) → k ≢ i → made k ≡ [])
        → EachGrew object cells seats made (set seats i s')
    each_one seats made i cell s s' at here grew none = record {
      wide = length-set seats i s';
      each = λ k cell' t t' at' there there'. dite (ℕ_discrete k i)
          (λ (e : k ≡ i). let same = one_place cells i cell cell' at (subst (λ (z : ℕ). get_elem? cells z ≡ some cell') e at') in let before = one_place seats i s t here (subst (λ (z : ℕ). get_elem? seats z ≡ some t) e there) in
          let after = one_place (set seats i s') i s' t' (set_here seats i s' (in_range seats i s here)) (subst (λ (z : ℕ). get_elem? (set seats i s') z ≡ some t') e there') in
          subst (λ (z : (Begun O × Sitting O C R) × (ℕ × Sitting O C R)). Grew object z.0.0.first z.0.1 (made z.1.0) z.1.1) (λ c. ((same c, before c), (sym e c, after c))) grew)
          (λ (far : k ≢ i). let same = one_place seats k t t' there (sym (set_else seats i k s' far) ∙ there') in
          subst (λ (z : Sitting O C R × List (Entry C R)). Grew object cell'.first t z.1 z.0) (λ c. (same c, sym (none k far) c)) (grew_none object cell'.first t));
    }

    -- calls at every place, and then others
    pub each_on : (seats : List (Sitting O C R)) (made : ℕ → List (Entry C R)) (seats' : List (Sitting O C R)) (more : ℕ → List (Entry C R)) (seats'' : List (Sitting O C R)) → EachGrew object cells seats made seats' → EachGrew object cells seats' more seats''
        → EachGrew object cells seats (λ k. made k ++ more k) seats''
    each_on seats made seats' more seats'' g h = record {
      wide = h.wide ∙ g.wide;
      each = λ k cell s s'' at here here''. let middle = there seats' k (omega (arith, in_range seats k s here, g.wide)) in
          grew_more object cell.first s (made k) middle.0 (more k) s'' (g.each k cell s middle.0 at here middle.1) (h.each k cell middle.0 s'' at middle.1 here'');
    }

    -- the steps by another name
    pub each_same : (seats : List (Sitting O C R)) (made made' : ℕ → List (Entry C R)) (seats' : List (Sitting O C R)) → ((k : ℕ) → made k ≡ made' k) → EachGrew object cells seats made seats' → EachGrew object cells seats made' seats'
    each_same seats made made' seats' same g = record { wide = g.wide; each = λ k cell s s' at here here'. subst (λ (l : List (Entry C R)). Grew object cell.first s l s') (same k) (g.each k cell s s' at here here') }
