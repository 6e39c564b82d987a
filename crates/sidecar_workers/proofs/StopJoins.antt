-- A seat is joined to the root of a stop word.
use Rattle.std.proofs.Common.{◌≡◌, ◌≢◌, ℕ, ◌+◌, ◌<◌, ◌||◌, eqb, true, false, List, set, slice_index, sum_by, is_some, sym, ap, ◌∙◌, subst, ⊎_elim, arith, length-set}
use Rattle.std.proofs.lemmas.Bool.{eqb-true}
use mathlib.Core.Option.{some}
use lib.ListN.{get_elem?}
use Rattle.atomic_table.specs.Table.{Joins}
use Rattle.atomic_table.proofs.Lists.{at_set, set_here, set_else}
use Rattle.sidecar_workers.specs.declared.view.View.{View}
use Rattle.sidecar_workers.specs.StopRule.{alive, has_found, has_ended, Cause, StopRule}
use Rattle.sidecar_workers.specs.StopPlay.{joined_view, spent_view}
use Rattle.sidecar_workers.proofs.Places.{in_range, one_place, sum_at, sum_set}
use Rattle.sidecar_workers.proofs.StopSteps.{Stand, lives_if, either_true, or_left, or_right, same_place}

module _ (id : ℕ) (v : View) (other : ℕ) (w : View) (living : v.spent ≡ false) (is : v.is_root ≡ true) (living' : w.spent ≡ false) (s : Stand) (r : StopRule s) (at : get_elem? s.views id ≡ some v) (apart : other ≢ id) (at' : get_elem? (set s.views id (joined_view v w)) other ≡ some w) where
  abbrev Half : List View
  Half = set s.views id (joined_view v w)

  abbrev Whole : List View
  Whole = set Half other spent_view

  lived : alive v ≡ 1
  lived = lives_if v living

  lived' : alive w ≡ 1
  lived' = lives_if w living'

  there' : get_elem? s.views other ≡ some w
  there' = sym (set_else s.views id other (joined_view v w) apart) ∙ at'

  at_root : id ≡ 0
  at_root = eqb-true id 0 (sym (r.rooted id v at lived) ∙ is)

  first : get_elem? s.views 0 ≡ some v
  first = subst (λ k. get_elem? s.views k ≡ some v) at_root at

  in_half : get_elem? Half id ≡ some (joined_view v w)
  in_half = set_here s.views id (joined_view v w) (in_range s.views id v at)

  in_whole : get_elem? Whole id ≡ some (joined_view v w)
  in_whole = set_else Half other id spent_view (λ e. apart (sym e)) ∙ in_half

  whole_sum : sum_by alive Whole + alive w + alive v ≡ sum_by alive s.views + alive (joined_view v w) + alive spent_view
  whole_sum = omega (arith, sum_set alive Half other w spent_view at', sum_set alive s.views id v (joined_view v w) at)

  -- a seat that lives afterwards is the root, or one that was left as it was
  by_place : (P : View → Type 0) (j : ℕ) (u : View) → get_elem? Whole j ≡ some u → alive u ≡ 1 → (j ≡ id → P (joined_view v w)) → (get_elem? s.views j ≡ some u → P u) → P u
  by_place P j u there alive_u here else = ⊎_elim
      (λ (t : (j ≡ other) × (spent_view ≡ u)). absurd (omega (arith, alive_u, ap alive t.1)))
      (λ (t : (j ≢ other) × (get_elem? Half j ≡ some u)). ⊎_elim
      (λ (q : (j ≡ id) × (joined_view v w ≡ u)). subst P q.1 (here q.0))
      (λ (q : (j ≢ id) × (get_elem? s.views j ≡ some u)). else q.1) (at_set s.views id j (joined_view v w) u t.1))
      (at_set Half other j spent_view u there)

  root_cause : has_ended (joined_view v w) ≡ true → Cause Whole
  root_cause e = record { j = id; v = joined_view v w; at = in_whole; lives = lived; ended = e }

  own_ended : has_ended v ≡ true → has_ended (joined_view v w) ≡ true
  own_ended e = ⊎_elim (λ (a : is_some v.ended ≡ true). or_left (is_some v.ended) (v.kept_ended || has_ended w) a)
      (λ (b : v.kept_ended ≡ true). or_right (is_some v.ended) (v.kept_ended || has_ended w) (or_left v.kept_ended (has_ended w) b)) (either_true (is_some v.ended) v.kept_ended e)

  other_ended : has_ended w ≡ true → has_ended (joined_view v w) ≡ true
  other_ended e = or_right (is_some v.ended) (v.kept_ended || has_ended w) (or_right v.kept_ended (has_ended w) e)

  cause_kept : Cause s.views → Cause Whole
  cause_kept c = ⊎_elim
      (λ (e : c.j ≡ id). root_cause (own_ended (subst (λ (u : View). has_ended u ≡ true) (one_place s.views id c.v v (subst (λ k. get_elem? s.views k ≡ some c.v) e c.at) at) c.ended)))
      (λ (n : c.j ≢ id). ⊎_elim
      (λ (e : c.j ≡ other). root_cause (other_ended (subst (λ (u : View). has_ended u ≡ true) (one_place s.views other c.v w (subst (λ k. get_elem? s.views k ≡ some c.v) e c.at) there') c.ended)))
      (λ (m : c.j ≢ other). record { j = c.j; v = c.v; at = set_else Half other c.j spent_view m ∙ (set_else s.views id c.j (joined_view v w) n ∙ c.at); lives = c.lives; ended = c.ended })
      (same_place c.j other))
      (same_place c.j id)

  -- the root had split the other off
  out_there : 0 < v.out
  out_there = omega (arith, whole_sum, lived, lived', (r.root v first).1, sum_at alive Whole id (joined_view v w) in_whole)

  joins_rule : StopRule record { words = s.words; homes = s.homes; views = Whole }
  joins_rule = record {
    wide = r.wide;
    has_root = omega (arith, r.has_root, length-set Half other spent_view, length-set s.views id (joined_view v w));
    rooted = λ j u there alive_u. by_place (λ u. u.is_root ≡ eqb j 0) j u there alive_u (λ e. is ∙ sym (ap (λ k. eqb k 0) (e ∙ at_root))) (λ h. r.rooted j u h alive_u);
    root = λ u there. ⊎_elim
        (λ (t : (0 ≡ other) × (spent_view ≡ u)). absurd (apart (sym t.0 ∙ sym at_root)))
        (λ (t : (0 ≢ other) × (get_elem? Half 0 ≡ some u)). let same : joined_view v w ≡ u = one_place Half 0 (joined_view v w) u (subst (λ k. get_elem? Half k ≡ some (joined_view v w)) at_root in_half) t.1 in
        (subst (λ (z : View). alive z ≡ 1) same lived, omega (arith, whole_sum, lived, lived', (r.root v first).1, sum_at alive Whole id (joined_view v w) in_whole, ap (λ (z : View). z.out) same)))
        (at_set Half other 0 spent_view u there);
    met_out = λ j u there alive_u. by_place (λ u. 0 < u.out_before) j u there alive_u (λ _. out_there) (λ h. r.met_out j u h alive_u);
    shown = λ j u there alive_u. by_place (λ u. has_found u ≡ true → 0 < slice_index s.words 0) j u there alive_u
        (λ _ e. ⊎_elim (λ (a : v.found ≡ true). r.shown id v at lived (or_left v.found v.kept_found a))
        (λ (b : (v.kept_found || has_found w) ≡ true). ⊎_elim (λ (c : v.kept_found ≡ true). r.shown id v at lived (or_right v.found v.kept_found c)) (λ (d : has_found w ≡ true). r.shown other w there' lived' d) (either_true v.kept_found (has_found w) b))
        (either_true v.found (v.kept_found || has_found w) e))
        (λ h. r.shown j u h alive_u);
    caused = λ h. cause_kept (r.caused h);
  }

pub joins : (id : ℕ) (v : View) (other : ℕ) (w : View) → v.spent ≡ false → v.is_root ≡ true → w.spent ≡ false → Joins StopRule id v other w (joined_view v w) spent_view
joins id v other w living is living' s r at apart at' = joins_rule id v other w living is living' s r at apart at'
