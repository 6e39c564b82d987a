-- Each step on a stop word keeps its rule.
use Rattle.std.proofs.Common.{◌≡◌, ◌≢◌, ◌⊎◌, ℕ, zero, suc, ◌+◌, ◌<◌, ◌||◌, eqb, Bool, true, false, List, [], ◌∷◌, ◌++◌, length, set, slice_index, Option, Some, None, refl, sym, ap, ◌∙◌, subst, inl, inr, ⊎_elim, arith, length-set}
use Rattle.std.proofs.lemmas.Bool.{false≢true, eqb-true}
use mathlib.Core.Option.{some, some-injective, some-ne-none}
use lib.ListN.{get_elem?}
use Rattle.atomic_table.specs.Table.{State, Me, Act, keeps, Valid, carried_after, stepped, Allows}
use Rattle.atomic_table.proofs.Lists.{at_set, set_here, set_else}
use Rattle.sidecar_workers.specs.declared.reason.Reason.{Reason}
use Rattle.sidecar_workers.specs.declared.view.View.{View}
use Rattle.sidecar_workers.specs.StopRule.{opening_view, one_unless, alive, has_found, has_ended, Cause, StopRule}
use Rattle.sidecar_workers.specs.StopPlay.{found_view, clear_view, ended_view, IsAloneView, looked, halted}
use Rattle.sidecar_workers.proofs.Places.{in_range, one_place, sum_set, only_first}

abbrev pub Stand : Type 0
Stand = State (Unit {0}) View

pub lives_if : (v : View) → v.spent ≡ false → alive v ≡ 1
lives_if v e = ap one_unless e

-- a true disjunction
pub either_true : (a b : Bool) → (a || b) ≡ true → (a ≡ true) ⊎ (b ≡ true)
either_true true b e = inl refl
either_true false b e = inr e

pub or_left : (a b : Bool) → a ≡ true → (a || b) ≡ true
or_left true b e = refl
or_left false b e = absurd (false≢true e)

pub or_right : (a b : Bool) → b ≡ true → (a || b) ≡ true
or_right true b e = refl
or_right false b e = e

not_true : (b : Bool) → (b ≡ true → ⊥) → b ≡ false
not_true true = λ no. absurd (no refl)
not_true false = λ no. refl

pub same_place : (i j : ℕ) → (i ≡ j) ⊎ (i ≢ j)
same_place zero zero = inl refl
same_place zero (suc j) = inr (λ e. omega (arith, e))
same_place (suc i) zero = inr (λ e. omega (arith, e))
same_place (suc i) (suc j) = ⊎_elim (λ (e : i ≡ j). inl (ap suc e)) (λ (n : i ≢ j). inr (λ e. n (omega (arith, e)))) (same_place i j)

-- a cause stays where a seat's view changes and stays a cause if it was one
pub cause_stays : (views : List View) (id : ℕ) (v w : View) → get_elem? views id ≡ some v → alive w ≡ 1 → (has_ended v ≡ true → has_ended w ≡ true) → Cause views → Cause (set views id w)
cause_stays views id v w at lives stays c = by_place (same_place c.j id)
  where
    by_place : (c.j ≡ id) ⊎ (c.j ≢ id) → Cause (set views id w)
    by_place (inl here) = record {
      j = id;
      v = w;
      at = set_here views id w (in_range views id v at);
      lives = lives;
      ended = stays (subst (λ (u : View). has_ended u ≡ true) (one_place views id c.v v (subst (λ (k : ℕ). get_elem? views k ≡ some c.v) here c.at) at) c.ended);
    }
    by_place (inr other) = record { j = c.j; v = c.v; at = set_else views id c.j w other ∙ c.at; lives = c.lives; ended = c.ended }

-- the rule after a step of one seat on the word, which stays set where it was
moved : (s : Stand) → StopRule s → (id : ℕ) (v w : View) (words : List ℕ) → get_elem? s.views id ≡ some v → alive v ≡ 1 → alive w ≡ 1 → w.is_root ≡ v.is_root → w.out ≡ v.out → w.out_before ≡ v.out_before → length words ≡ 1 →
    (0 < slice_index s.words 0 → 0 < slice_index words 0) → (has_found w ≡ true → 0 < slice_index words 0) → (0 < slice_index words 0 → Cause (set s.views id w)) →
    StopRule record { words = words; homes = s.homes; views = set s.views id w }
moved s r id v w words at lived lives same_root same_out same_before one later found cause = record {
  wide = one;
  has_root = omega (arith, r.has_root, length-set s.views id w);
  rooted = λ j u there alive_u. ⊎_elim
      (λ (t : (j ≡ id) × (w ≡ u)). ap (λ (z : View). z.is_root) (sym t.1) ∙ same_root ∙ r.rooted id v at lived ∙ ap (λ k. eqb k 0) (sym t.0))
      (λ (t : (j ≢ id) × (get_elem? s.views j ≡ some u)). r.rooted j u t.1 alive_u) (at_set s.views id j w u there);
  root = λ u there. ⊎_elim
      (λ (t : (0 ≡ id) × (w ≡ u)). let old = r.root v (subst (λ k. get_elem? s.views k ≡ some v) (sym t.0) at) in
      (subst (λ (z : View). alive z ≡ 1) t.1 lives, omega (arith, old.1, sum_set alive s.views id v w at, lived, lives, same_out, ap (λ (z : View). z.out) t.1)))
      (λ (t : (0 ≢ id) × (get_elem? s.views 0 ≡ some u)). let old = r.root u t.1 in (old.0, omega (arith, old.1, sum_set alive s.views id v w at, lived, lives)))
      (at_set s.views id 0 w u there);
  met_out = λ j u there alive_u. ⊎_elim
      (λ (t : (j ≡ id) × (w ≡ u)). omega (arith, r.met_out id v at lived, same_before, ap (λ (z : View). z.out_before) t.1))
      (λ (t : (j ≢ id) × (get_elem? s.views j ≡ some u)). r.met_out j u t.1 alive_u) (at_set s.views id j w u there);
  shown = λ j u there alive_u is. ⊎_elim
      (λ (t : (j ≡ id) × (w ≡ u)). found (ap has_found t.1 ∙ is))
      (λ (t : (j ≢ id) × (get_elem? s.views j ≡ some u)). later (r.shown j u t.1 alive_u is)) (at_set s.views id j w u there);
  caused = cause;
}

-- one word, written
written : (words : List ℕ) (n : ℕ) → length words ≡ 1 → (length (set words 0 n) ≡ 1) × (slice_index (set words 0 n) 0 ≡ n)
written [] n e = absurd (omega arith)
written (x ∷ xs) n e = (omega arith, refl)

-- a root that has met all seats is the one that lives
alone_ended : (s : Stand) → StopRule s → (id : ℕ) (v : View) → get_elem? s.views id ≡ some v → alive v ≡ 1 → IsAloneView v → 0 < slice_index s.words 0 → has_ended v ≡ true
alone_ended s r id v at lived alone is_set =
    let at_root : id ≡ 0 = eqb-true id 0 (sym (r.rooted id v at lived) ∙ alone.0) in
    let first : get_elem? s.views 0 ≡ some v = subst (λ k. get_elem? s.views k ≡ some v) at_root at in
    let c = r.caused is_set in
    let there : c.j ≡ 0 = only_first alive s.views v c.v c.j first lived (omega (arith, (r.root v first).1, alone.1)) c.at c.lives in
    subst (λ (u : View). has_ended u ≡ true) (one_place s.views 0 c.v v (subst (λ k. get_elem? s.views k ≡ some c.v) there c.at) first) c.ended

abbrev Next : Stand → ℕ → ℕ → Me (Unit {0}) View → (ℕ → Me (Unit {0}) View → Type 0) → ℕ → Type 0
Next s id n m then found = (w : View) × (a : Act (Unit {0})) × Valid s.homes m.1 a × StopRule (stepped s 0 n id m.1 w a) × then found (w, carried_after m.1 a)

pub looks : (slots id : ℕ) (m : Me (Unit {0}) View) → m.0.spent ≡ false → Allows StopRule slots id m 0 (λ n. n) (looked m)
looks slots id m living s r homes at fits = by_word (slice_index s.words 0) refl
  where
    lived : alive m.0 ≡ 1
    lived = lives_if m.0 living

    by_word : (n : ℕ) → slice_index s.words 0 ≡ n → Next s id n m (looked m) n
    by_word zero is =
        let unset : has_found m.0 ≡ true → ⊥ = λ e. omega (arith, r.shown id m.0 at lived e, is) in (
          clear_view m.0,
          keeps,
          tt,
          moved s r id m.0 (clear_view m.0) (set s.words 0 0) at lived lived refl refl refl (written s.words 0 r.wide).0
              (λ h. absurd (omega (arith, h, is))) (λ e. absurd (unset e)) (λ h. absurd (omega (arith, h, (written s.words 0 r.wide).1))),
          (refl, (λ _. (refl, not_true (has_found m.0) unset)), (λ h. absurd (omega (arith, h))), r.met_out id m.0 at lived, (λ alone e. absurd (unset e))),
        )
    by_word (suc n) is = (
      found_view m.0,
      keeps,
      tt,
      moved s r id m.0 (found_view m.0) (set s.words 0 (suc n)) at lived lived refl refl refl (written s.words (suc n) r.wide).0
          (λ _. omega (arith, (written s.words (suc n) r.wide).1)) (λ _. omega (arith, (written s.words (suc n) r.wide).1))
          (λ _. cause_stays s.views id m.0 (found_view m.0) at lived (λ e. e) (r.caused (omega (arith, is)))),
      (refl, (λ e. absurd (omega (arith, e))), (λ _. refl), r.met_out id m.0 at lived, (λ alone _. alone_ended s r id m.0 at lived alone (omega (arith, is)))),
    )

some_same : {A : Type 0} (o : Option A) (a b : A) → o ≡ Some a → o ≡ Some b → a ≡ b
some_same (Some x) a b e f = cc
some_same None a b e f = absurd (cc)

pub halts : (why : Option Reason) (reason : Reason) → why ≡ Some reason → (slots id : ℕ) (m : Me (Unit {0}) View) → m.0.spent ≡ false → Allows StopRule slots id m 0 (λ _. 1) (halted why m)
halts why reason is slots id m living s r homes at fits = (
  ended_view m.0 reason,
  keeps,
  tt,
  moved s r id m.0 (ended_view m.0 reason) (set s.words 0 1) at lived lived refl refl refl (written s.words 1 r.wide).0
      (λ _. omega (arith, (written s.words 1 r.wide).1)) (λ _. omega (arith, (written s.words 1 r.wide).1))
      (λ _. record { j = id; v = ended_view m.0 reason; at = set_here s.views id (ended_view m.0 reason) (in_range s.views id m.0 at); lives = lived; ended = refl }),
  (refl, (λ other e. ap (λ (z : Reason). ended_view m.0 z) (some_same why reason other is e))),
)
  where
    lived : alive m.0 ≡ 1
    lived = lives_if m.0 living

pub at_end : {A : Type 0} (l : List A) (a b : A) (j : ℕ) → get_elem? (l ++ a ∷ []) j ≡ some b → (get_elem? l j ≡ some b) ⊎ ((j ≡ length l) × (a ≡ b))
at_end [] a b zero e = inr (refl, some-injective a b e)
at_end [] a b (suc j) e = absurd (some-ne-none b (sym e))
at_end (x ∷ xs) a b zero e = inl e
at_end (x ∷ xs) a b (suc j) e = ⊎_elim inl (λ t. inr (ap suc t.0, t.1)) (at_end xs a b j e)

pub starts : StopRule record { words = 0 ∷ []; homes = []; views = opening_view ∷ [] }
starts = record {
  wide = refl;
  has_root = omega arith;
  rooted = λ j u there _. ⊎_elim (λ (t : get_elem? [] j ≡ some u). absurd (some-ne-none u (sym t))) (λ (t : (j ≡ 0) × (opening_view ≡ u)). ap (λ (z : View). z.is_root) (sym t.1) ∙ ap (λ k. eqb k 0) (sym t.0)) (at_end [] opening_view u j there);
  root = λ u there. subst (λ (z : View). (alive z ≡ 1) × (1 ≡ z.out + 1)) (some-injective opening_view u there) (refl, refl);
  met_out = λ j u there _. ⊎_elim (λ (t : get_elem? [] j ≡ some u). absurd (some-ne-none u (sym t))) (λ (t : (j ≡ 0) × (opening_view ≡ u)). omega (arith, ap (λ (z : View). z.out_before) t.1)) (at_end [] opening_view u j there);
  shown = λ j u there _ e. ⊎_elim (λ (t : get_elem? [] j ≡ some u). absurd (some-ne-none u (sym t))) (λ (t : (j ≡ 0) × (opening_view ≡ u)). absurd (false≢true (ap has_found t.1 ∙ e))) (at_end [] opening_view u j there);
  caused = λ h. absurd (omega (arith, h));
}
