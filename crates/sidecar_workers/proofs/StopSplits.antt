-- A seat is split off the root of a stop word.
use Rattle.std.proofs.Common.{◌≡◌, ◌≢◌, ℕ, ◌+◌, ◌<◌, eqb, true, false, List, [], ◌∷◌, ◌++◌, length, set, sum_by, sym, ap, ◌∙◌, subst, ⊎_elim, arith, length-set, length-append, ne_eqb}
use Rattle.std.proofs.lemmas.Bool.{false≢true, eqb-true}
use Rattle.std.proofs.lemmas.List.Sums.{sum_by_push}
use mathlib.Core.Option.{some}
use lib.ListN.{get_elem?}
use Rattle.atomic_table.specs.Table.{Splits}
use Rattle.atomic_table.proofs.Lists.{at_set, at_longer}
use Rattle.sidecar_workers.specs.declared.view.View.{View}
use Rattle.sidecar_workers.specs.StopRule.{alive, has_found, StopRule}
use Rattle.sidecar_workers.specs.StopPlay.{parent_view, child_view}
use Rattle.sidecar_workers.proofs.Places.{sum_set}
use Rattle.sidecar_workers.proofs.StopSteps.{Stand, lives_if, cause_stays, at_end}

module _ (id : ℕ) (v : View) (living : v.spent ≡ false) (is : v.is_root ≡ true) (s : Stand) (r : StopRule s) (at : get_elem? s.views id ≡ some v) where
  abbrev Half : List View
  Half = set s.views id (parent_view v)

  abbrev Whole : List View
  Whole = Half ++ child_view ∷ []

  lived : alive v ≡ 1
  lived = lives_if v living

  at_root : id ≡ 0
  at_root = eqb-true id 0 (sym (r.rooted id v at lived) ∙ is)

  first : get_elem? s.views 0 ≡ some v
  first = subst (λ k. get_elem? s.views k ≡ some v) at_root at

  long : length (Half ++ child_view ∷ []) ≡ length s.views + 1
  long = length-append Half (child_view ∷ []) ∙ ap (λ (n : ℕ). n + 1) (length-set s.views id (parent_view v))

  whole_sum : sum_by alive (Half ++ child_view ∷ []) + alive v ≡ sum_by alive s.views + alive (parent_view v) + alive child_view
  whole_sum = omega (arith, sum_by_push alive Half child_view, sum_set alive s.views id v (parent_view v) at)

  splits_rule : StopRule record { words = s.words; homes = s.homes; views = Whole }
  splits_rule = record {
    wide = r.wide;
    has_root = omega (arith, long);
    rooted = λ j u there alive_u. ⊎_elim
        (λ (h : get_elem? Half j ≡ some u). ⊎_elim
        (λ (t : (j ≡ id) × (parent_view v ≡ u)). ap (λ (z : View). z.is_root) (sym t.1) ∙ r.rooted id v at lived ∙ ap (λ k. eqb k 0) (sym t.0))
        (λ (t : (j ≢ id) × (get_elem? s.views j ≡ some u)). r.rooted j u t.1 alive_u) (at_set s.views id j (parent_view v) u h))
        (λ (t : (j ≡ length Half) × (child_view ≡ u)). ap (λ (z : View). z.is_root) (sym t.1) ∙ sym (ne_eqb j 0 (λ z. omega (arith, z, t.0, r.has_root, length-set s.views id (parent_view v)))))
        (at_end Half child_view u j there);
    root = λ u there. ⊎_elim
        (λ (h : get_elem? Half 0 ≡ some u). ⊎_elim
        (λ (t : (0 ≡ id) × (parent_view v ≡ u)). (subst (λ (z : View). alive z ≡ 1) t.1 lived, omega (arith, (r.root v first).1, whole_sum, lived, ap (λ (z : View). z.out) t.1)))
        (λ (t : (0 ≢ id) × (get_elem? s.views 0 ≡ some u)). absurd (t.0 (sym at_root))) (at_set s.views id 0 (parent_view v) u h))
        (λ (t : (0 ≡ length Half) × (child_view ≡ u)). absurd (omega (arith, t.0, r.has_root, length-set s.views id (parent_view v))))
        (at_end Half child_view u 0 there);
    met_out = λ j u there alive_u. ⊎_elim
        (λ (h : get_elem? Half j ≡ some u). ⊎_elim
        (λ (t : (j ≡ id) × (parent_view v ≡ u)). subst (λ (z : View). 0 < z.out_before) t.1 (r.met_out id v at lived))
        (λ (t : (j ≢ id) × (get_elem? s.views j ≡ some u)). r.met_out j u t.1 alive_u) (at_set s.views id j (parent_view v) u h))
        (λ (t : (j ≡ length Half) × (child_view ≡ u)). omega (arith, ap (λ (z : View). z.out_before) t.1))
        (at_end Half child_view u j there);
    shown = λ j u there alive_u e. ⊎_elim
        (λ (h : get_elem? Half j ≡ some u). ⊎_elim
        (λ (t : (j ≡ id) × (parent_view v ≡ u)). r.shown id v at lived (ap has_found t.1 ∙ e))
        (λ (t : (j ≢ id) × (get_elem? s.views j ≡ some u)). r.shown j u t.1 alive_u e) (at_set s.views id j (parent_view v) u h))
        (λ (t : (j ≡ length Half) × (child_view ≡ u)). absurd (false≢true (ap has_found t.1 ∙ e)))
        (at_end Half child_view u j there);
    caused = λ h. let c = cause_stays s.views id v (parent_view v) at lived (λ e. e) (r.caused h) in
        record { j = c.j; v = c.v; at = at_longer Half (child_view ∷ []) c.j c.v c.at; lives = c.lives; ended = c.ended };
  }

pub splits : (id : ℕ) (v : View) → v.spent ≡ false → v.is_root ≡ true → Splits StopRule id v (parent_view v) child_view
splits id v living is s r at = splits_rule id v living is s r at
