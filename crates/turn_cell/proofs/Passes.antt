-- Whole passes, put together seat by seat: started, split, grown, met.
use Rattle.std.proofs.Common.{◌≡◌, ◌≢◌, ℕ, zero, suc, ◌+◌, ◌<◌, ◌≤◌, true, false, List, [], ◌∷◌, ◌++◌, length, map, take, drop, set, refl, sym, ap, ◌∙◌, subst, ⊎_elim, arith, append-nil, length-append, length-set}
use Rattle.std.proofs.lemmas.List.{length-map}
use Rattle.std.proofs.lemmas.List.Elements.{All-nil, All-weaker}
use mathlib.Core.Logic.{dite}
use mathlib.Core.Option.{some, some-injective, some-ne-none}
use native.Mathlib.Decide.{ℕ_discrete}
use lib.ListN.{get_elem?}
use Rattle.atomic_table.proofs.Lists.{set_here, set_else, at_map}
use Rattle.turn_cell.specs.declared.entry.Entry.{Entry}
use Rattle.turn_cell.specs.declared.object.Object.{Ghosts}
use Rattle.turn_cell.specs.History.{entries_of}
use Rattle.turn_cell.specs.Sitting.{Begun, Sitting, IsSeatOf, IsSound, Meets, root_of, parent_of, child_of}
use Rattle.turn_cell.specs.Growth.{Grew, EachGrew}
use Rattle.turn_cell.specs.Passes.{IsRootOf, IsSplitOff, EachSeat, EachSeated, EachRoot, EachAlone, EachSplitOff, EachSound, EachSplit, SplitTo, EachMet, MetTo}
use Rattle.turn_cell.proofs.Lists.{in_range, one_place, there, at_end}
use Rattle.turn_cell.proofs.Histories.{absent}
use Rattle.turn_cell.proofs.Growing.{still_of}

-- the places of a list whose first n elements became f of what they were
step_at : {A B : Type 0} (f : A → A) (g : A → B) (n : ℕ) (l : List A) (a : A) → get_elem? (map f (take n l) ++ drop n l) n ≡ some a
    → (set (map f (take n l) ++ drop n l) n (f a) ≡ map f (take (suc n) l) ++ drop (suc n) l) × (map g (take n l) ++ g a ∷ [] ≡ map g (take (suc n) l))
step_at f g zero [] a e = absurd (some-ne-none a (sym e))
step_at f g zero (x ∷ l) a e = let same : x ≡ a = some-injective x a e in (ap (λ z. f z ∷ l) (sym same), ap (λ z. g z ∷ []) (sym same))
step_at f g (suc n) [] a e = absurd (some-ne-none a (sym e))
step_at f g (suc n) (x ∷ l) a e = let t = step_at f g n l a e in (ap (λ z. f x ∷ z) t.0, ap (λ z. g x ∷ z) t.1)

-- the next element is as it was
next_at : {A : Type 0} (f : A → A) (n : ℕ) (l : List A) → get_elem? (map f (take n l) ++ drop n l) n ≡ get_elem? l n
next_at f zero l = refl
next_at f (suc n) [] = refl
next_at f (suc n) (x ∷ l) = next_at f n l

from_map : {A B : Type 0} (f : A → B) (l : List A) (k : ℕ) (b : B) → get_elem? (map f l) k ≡ some b → (a : A) × (get_elem? l k ≡ some a) × (f a ≡ b)
from_map f l k b e = let n : k < length l = omega (arith, in_range (map f l) k b e, length-map l f) in let a = there l k n in (a.0, a.1, one_place (map f l) k (f a.0) b (at_map f l k a.0 a.1) e)

module _ {O C R : Type 0} where
  module _ (P : Begun O → Sitting O C R → Type 0) where
    -- no cell
    pub each_nil : EachSeat P [] []
    each_nil = record { wide = refl; each = λ k cell seat at here. absurd (some-ne-none cell (sym at)) }

    -- one more cell, and a seat of it
    pub each_push : (cells : List (Begun O)) (seats : List (Sitting O C R)) (cell : Begun O) (seat : Sitting O C R) → EachSeat P cells seats → P cell seat → EachSeat P (cells ++ cell ∷ []) (seats ++ seat ∷ [])
    each_push cells seats cell seat all one = record {
      wide = omega (arith, all.wide, length-append cells (cell ∷ []), length-append seats (seat ∷ []));
      each = λ k cell' seat' at here. ⊎_elim
          (λ (low : get_elem? cells k ≡ some cell'). ⊎_elim (λ (low' : get_elem? seats k ≡ some seat'). all.each k cell' seat' low low')
          (λ (last : (k ≡ length seats) × (seat ≡ seat')). absurd (omega (arith, in_range cells k cell' low, last.0, all.wide))) (at_end seats seat seat' k here))
          (λ (last : (k ≡ length cells) × (cell ≡ cell')). ⊎_elim (λ (low' : get_elem? seats k ≡ some seat'). absurd (omega (arith, in_range seats k seat' low', last.0, all.wide)))
          (λ (last' : (k ≡ length seats) × (seat ≡ seat')). subst (λ (z : Begun O × Sitting O C R). P z.0 z.1) (λ i. (last.1 i, last'.1 i)) one) (at_end seats seat seat' k here)) (at_end cells cell cell' k at);
    }

    -- what each has, each has of the weaker kind
    pub each_weaker : (Q : Begun O → Sitting O C R → Type 0) (cells : List (Begun O)) (seats : List (Sitting O C R)) → ((cell : Begun O) (seat : Sitting O C R) → P cell seat → Q cell seat) → EachSeat P cells seats → EachSeat Q cells seats
    each_weaker Q cells seats weaker all = record { wide = all.wide; each = λ k cell seat at here. weaker cell seat (all.each k cell seat at here) }

  -- the seat of the cell at the place k
  pub seat_at : (P : Begun O → Sitting O C R → Type 0) (cells : List (Begun O)) (seats : List (Sitting O C R)) → EachSeat P cells seats → (k : ℕ) (cell : Begun O) → get_elem? cells k ≡ some cell → (seat : Sitting O C R) × (get_elem? seats k ≡ some seat) × P cell seat
  seat_at P cells seats all k cell at = let s = there seats k (omega (arith, in_range cells k cell at, all.wide)) in (s.0, s.1, all.each k cell s.0 at s.1)

  -- one more cell that has just begun, and its root
  pub root_push : (cells : List (Begun O)) (seats : List (Sitting O C R)) (cell : Begun O) → EachAlone cells seats → EachAlone (cells ++ cell ∷ []) (seats ++ root_of cell ∷ [])
  root_push cells seats cell all = each_push (IsRootOf 0) cells seats cell (root_of cell) all ((refl, refl), refl, refl)

  -- no root was split
  pub split_none : (roots : List (Sitting O C R)) → SplitTo 0 roots roots []
  split_none roots = (refl, refl)

  -- the next root is as it was
  pub split_next : (n : ℕ) (roots after pass : List (Sitting O C R)) → SplitTo n roots after pass → get_elem? after n ≡ get_elem? roots n
  split_next n roots after pass done = ap (λ (l : List (Sitting O C R)). get_elem? l n) done.0 ∙ next_at parent_of n roots

  -- the next root was split
  pub split_more : (n : ℕ) (roots after pass : List (Sitting O C R)) (root : Sitting O C R) → SplitTo n roots after pass → get_elem? after n ≡ some root → SplitTo (n + 1) roots (set after n (parent_of root)) (pass ++ child_of root ∷ [])
  split_more n roots after pass root done at = let t = step_at parent_of child_of n roots root (subst (λ (l : List (Sitting O C R)). get_elem? l n ≡ some root) done.0 at) in
      let more : suc n ≡ n + 1 = omega arith in subst (λ (k : ℕ). SplitTo k roots (set after n (parent_of root)) (pass ++ child_of root ∷ [])) more (ap (λ (l : List (Sitting O C R)). set l n (parent_of root)) done.0 ∙ t.0, ap (λ (l : List (Sitting O C R)). l ++ child_of root ∷ []) done.1 ∙ t.1)

  -- all were
  pub split_all : (n : ℕ) (roots after pass : List (Sitting O C R)) → length roots ≤ n → SplitTo n roots after pass → EachSplit roots after pass
  split_all n roots after pass wide done = let t = ends n roots wide in (done.0 ∙ (λ i. map parent_of (t.0 i) ++ t.1 i) ∙ append-nil (map parent_of roots), done.1 ∙ ap (map child_of) t.0)
    where
      ends : {A : Type 0} (n : ℕ) (l : List A) → length l ≤ n → (take n l ≡ l) × (drop n l ≡ [])
      ends zero [] h = (refl, refl)
      ends zero (x ∷ l) h = absurd (omega arith)
      ends (suc n) [] h = (refl, refl)
      ends (suc n) (x ∷ l) h = let t = ends n l (omega arith) in (ap (λ z. x ∷ z) t.0, t.1)

  -- what holds of f of each seat holds of each seat after f
  mapped : (P Q : Begun O → Sitting O C R → Type 0) (f : Sitting O C R → Sitting O C R) (cells : List (Begun O)) (seats after : List (Sitting O C R)) → ((cell : Begun O) (seat : Sitting O C R) → P cell seat → Q cell (f seat)) → after ≡ map f seats → EachSeat P cells seats → EachSeat Q cells after
  mapped P Q f cells seats after leads is all = subst (λ (l : List (Sitting O C R)). EachSeat Q cells l) (sym is) record {
    wide = length-map seats f ∙ all.wide;
    each = λ k cell seat at here. let s = from_map f seats k seat here in subst (Q cell) s.2 (leads cell s.0 (all.each k cell s.0 at s.1));
  }

  -- the roots have one seat more that is split off, and the seats that were split off may be met
  pub split_roots : (out : ℕ) (cells : List (Begun O)) (roots after pass : List (Sitting O C R)) → EachRoot out cells roots → EachSplit roots after pass → EachRoot (out + 1) cells after × EachSplitOff cells pass
  split_roots out cells roots after pass all done = (
    mapped (IsRootOf out) (IsRootOf (out + 1)) parent_of cells roots after (λ cell seat is. (is.0, is.1, ap (λ (n : ℕ). n + 1) is.2)) done.0 all,
    mapped (IsRootOf out) IsSplitOff child_of cells roots pass (λ cell seat is. (is.0, refl)) done.1 all,
  )

module _ {O C R : Type 0} (object : Ghosts O C R) where
  pub parent_sound : (first : O) (root : Sitting O C R) → root.is_root ≡ true → IsSound object first root → IsSound object first (parent_of root)
  parent_sound first root is s = record {
    legal = s.legal;
    own = s.own;
    met = All-weaker (λ (pair : ℕ × List (Entry C R)). (pair.0 < root.made) × (entries_of pair.0 root.seen ≡ pair.1)) (λ (pair : ℕ × List (Entry C R)). (pair.0 < root.made + 1) × (entries_of pair.0 root.seen ≡ pair.1)) (λ pair h. (omega (arith, h.0), h.1)) root.met s.met;
    made = λ _. All-weaker (λ (entry : Entry C R). entry.seat < root.made) (λ (entry : Entry C R). entry.seat < root.made + 1) (λ entry h. omega (arith, h)) root.seen (s.made is);
    parts = λ _. omega (arith, s.parts is);
    plain = λ e. absurd (cc);
    count = s.count;
    short = s.short;
    full = λ alone. absurd (omega (arith, alone.1));
  }

  pub child_sound : (first : O) (root : Sitting O C R) → root.is_root ≡ true → IsSound object first root → IsSound object first (child_of root)
  child_sound first root is s = record {
    legal = s.legal;
    own = absent root.made root.made root.seen (omega arith) (s.made is);
    met = All-nil (λ (pair : ℕ × List (Entry C R)). (pair.0 < 0) × (entries_of pair.0 root.seen ≡ pair.1));
    made = λ e. absurd (cc);
    parts = λ e. absurd (cc);
    plain = λ _. (refl, refl, refl);
    count = tt;
    short = s.short;
    full = λ alone. absurd (let no : false ≡ true = alone.0 in cc);
  }

  -- the roots and the seats that were split off are sound
  pub split_sound : (out : ℕ) (cells : List (Begun O)) (roots after pass : List (Sitting O C R)) → EachRoot out cells roots → EachSound object cells roots → EachSplit roots after pass → EachSound object cells after × EachSound object cells pass
  split_sound out cells roots after pass all ok done = let both : EachSeat (λ cell seat. IsRootOf out cell seat × IsSound object cell.first seat) cells roots = record { wide = all.wide; each = λ k cell seat at here. (all.each k cell seat at here, ok.each k cell seat at here) } in (
    mapped (λ cell seat. IsRootOf out cell seat × IsSound object cell.first seat) (λ cell seat. IsSound object cell.first seat) parent_of cells roots after (λ cell seat h. parent_sound cell.first seat h.0.1 h.1) done.0 both,
    mapped (λ cell seat. IsRootOf out cell seat × IsSound object cell.first seat) (λ cell seat. IsSound object cell.first seat) child_of cells roots pass (λ cell seat h. child_sound cell.first seat h.0.1 h.1) done.1 both,
  )

  -- what growth keeps of one seat it keeps of each
  pub each_kept : (P : Begun O → Sitting O C R → Type 0) (cells : List (Begun O)) (seats : List (Sitting O C R)) (made : ℕ → List (Entry C R)) (seats' : List (Sitting O C R)) → ((cell : Begun O) (seat : Sitting O C R) (xs : List (Entry C R)) (seat' : Sitting O C R) → Grew object cell.first seat xs seat' → P cell seat → P cell seat')
      → EachGrew object cells seats made seats' → EachSeat P cells seats → EachSeat P cells seats'
  each_kept P cells seats made seats' keeps g all = record {
    wide = g.wide ∙ all.wide;
    each = λ k cell s' at here'. let before = there seats k (omega (arith, in_range seats' k s' here', g.wide)) in keeps cell before.0 (made k) s' (g.each k cell before.0 s' at before.1 here') (all.each k cell before.0 at before.1);
  }

  module _ (cells : List (Begun O)) (seats : List (Sitting O C R)) (made : ℕ → List (Entry C R)) (seats' : List (Sitting O C R)) (g : EachGrew object cells seats made seats') where
    -- the seats stay seats of the cells
    pub still_seated : EachSeated cells seats → EachSeated cells seats'
    still_seated = each_kept IsSeatOf cells seats made seats' (λ cell s xs s' grew. still_of object cell s xs s' grew) g

    -- roots stay roots, with as many seats split off
    pub still_roots : (out : ℕ) → EachRoot out cells seats → EachRoot out cells seats'
    still_roots out = each_kept (IsRootOf out) cells seats made seats' (λ cell s xs s' grew is. (still_of object cell s xs s' grew is.0, ap (λ (z : Sitting O C R). z.is_root) grew.stays ∙ is.1, ap (λ (z : Sitting O C R). z.out) grew.stays ∙ is.2)) g

    -- and seats that were split off stay such
    pub still_split_off : EachSplitOff cells seats → EachSplitOff cells seats'
    still_split_off = each_kept IsSplitOff cells seats made seats' (λ cell s xs s' grew is. (still_of object cell s xs s' grew is.0, ap (λ (z : Sitting O C R). z.is_root) grew.stays ∙ is.1)) g

    pub still_sound : EachSound object cells seats → EachSound object cells seats'
    still_sound = each_kept (λ cell seat. IsSound object cell.first seat) cells seats made seats' (λ cell s xs s' grew. grew.sound) g

  module _ (cells : List (Begun O)) (roots others : List (Sitting O C R)) where
    -- no root met its seat
    pub met_none : MetTo object 0 cells roots others roots
    met_none = record { wide = refl; met = λ k cell root other root' low. absurd (omega arith); rest = λ k low. refl }

    -- the next root met its seat
    pub met_more : (n : ℕ) (after : List (Sitting O C R)) (cell : Begun O) (root other root' : Sitting O C R) → MetTo object n cells roots others after → get_elem? cells n ≡ some cell → get_elem? after n ≡ some root → get_elem? others n ≡ some other → Meets object cell.first root other root'
        → MetTo object (n + 1) cells roots others (set after n root')
    met_more n after cell root other root' done at here there meets = record {
      wide = length-set after n root' ∙ done.wide;
      met = λ k cell' was with root'' low at' here' there' after'. dite (ℕ_discrete k n)
          (λ (e : k ≡ n). let cell-is = one_place cells n cell cell' at (subst (λ (z : ℕ). get_elem? cells z ≡ some cell') e at') in
          let root-is = one_place after n root was here (done.rest n (omega arith) ∙ subst (λ (z : ℕ). get_elem? roots z ≡ some was) e here') in
          let other-is = one_place others n other with there (subst (λ (z : ℕ). get_elem? others z ≡ some with) e there') in
          let after-is = one_place (set after n root') n root' root'' (set_here after n root' (in_range after n root here)) (subst (λ (z : ℕ). get_elem? (set after n root') z ≡ some root'') e after') in
          subst (λ (z : (Begun O × Sitting O C R) × (Sitting O C R × Sitting O C R)). Meets object z.0.0.first z.0.1 z.1.0 z.1.1) (λ i. ((cell-is i, root-is i), (other-is i, after-is i))) meets)
          (λ (far : k ≢ n). done.met k cell' was with root'' (omega (arith, low, far)) at' here' there' (sym (set_else after n k root' far) ∙ after'));
      rest = λ k low. set_else after n k root' (λ e. omega (arith, e, low)) ∙ done.rest k (omega arith);
    }

    -- all did
    pub met_all : (n : ℕ) (after : List (Sitting O C R)) → length roots ≤ n → MetTo object n cells roots others after → EachMet object cells roots others after
    met_all n after wide done = record { wide = done.wide; each = λ k cell root other root' at here there after'. done.met k cell root other root' (omega (arith, in_range roots k root here, wide)) at here there after' }

    -- the roots have one seat fewer that is split off, and are sound
    pub met_roots : (out : ℕ) (after : List (Sitting O C R)) → EachRoot (out + 1) cells roots → EachSplitOff cells others → EachMet object cells roots others after → EachRoot out cells after × EachSound object cells after
    met_roots out after all given done = let each = met in (
      record { wide = done.wide ∙ all.wide; each = λ k cell root' at here. (each k cell root' at here).0 },
      record { wide = done.wide ∙ all.wide; each = λ k cell root' at here. (each k cell root' at here).1 },
    )
      where
        met : (k : ℕ) (cell : Begun O) (root' : Sitting O C R) → get_elem? cells k ≡ some cell → get_elem? after k ≡ some root' → IsRootOf out cell root' × IsSound object cell.first root'
        met k cell root' at here = let root = there roots k (omega (arith, in_range after k root' here, done.wide)) in let other = there others k (omega (arith, in_range cells k cell at, given.wide)) in
            let meets = done.each k cell root.0 other.0 root' at root.1 other.1 here in let is = all.each k cell root.0 at root.1 in (
              (
                (ap (λ (z : Sitting O C R). z.table) meets.whole ∙ is.0.0, ap (λ (z : Sitting O C R). z.first) meets.whole ∙ is.0.1),
                ap (λ (z : Sitting O C R). z.is_root) meets.whole ∙ is.1,
                omega (arith, ap (λ (z : Sitting O C R). z.out) meets.whole, is.2),
              ),
              meets.sound,
            )
