-- After a join the root takes the longer of two histories.
use Rattle.std.proofs.Common.{◌≡◌, ◌⊎◌, ℕ, ◌<◌, ◌≤◌, cond, List, length, set, slice_index, Option, refl, sym, ap, subst, inl, inr, ⊎_elim, arith}
use Rattle.std.proofs.lemmas.Bool.{cases_lt, lt-ltb, le-ltb}
use mathlib.Core.Option.{some}
use mathlib.Core.List.{IsPrefix}
use base.Growing.{prefix_refl, prefix_anti}
use lib.ListN.{get_elem?}
use Rattle.atomic_table.specs.Table.{State, Me, keeps, Allows, stepped}
use Rattle.atomic_table.proofs.Lists.{set_here}
use Rattle.turn_cell.specs.declared.entry.Entry.{Entry}
use Rattle.turn_cell.specs.declared.object.Object.{Ghosts}
use Rattle.turn_cell.specs.declared.view.Stage.{Stage}
use Rattle.turn_cell.specs.declared.view.Stage.TheVariants.{Idle}
use Rattle.turn_cell.specs.declared.view.View.{View}
use Rattle.turn_cell.specs.History.{entries_of}
use Rattle.turn_cell.specs.Play.{Met, longer, met_view, met}
use Rattle.turn_cell.specs.Rule.{holding, working, living, Knows, Sits, Rule}
use Rattle.turn_cell.proofs.Lists.{in_range, prefix_order}
use Rattle.turn_cell.proofs.Histories.{between}
use Rattle.turn_cell.proofs.Known.{some_count, place, sound, alone_seen, alone_served}
use Rattle.turn_cell.proofs.Steps.{home_stays, glance_sum, quiet, from_first, Next, loaded1}

-- the longer of two lists that begin one
record Best {C R : Type 0} (a b l : List (Entry C R)) : Type 0 where
  left_of : IsPrefix a (longer a b)
  right_of : IsPrefix b (longer a b)
  within : IsPrefix (longer a b) l
  which : (longer a b ≡ a) ⊎ (longer a b ≡ b)

best : {C R : Type 0} (a b l : List (Entry C R)) → IsPrefix a l → IsPrefix b l → Best a b l
best {C} {R} a b l h k = ⊎_elim
    (λ (less : length a < length b). let e : longer a b ≡ b = ap (λ t. cond t b a) (lt-ltb (length a) (length b) less) in record {
      left_of = subst (λ (z : List (Entry C R)). IsPrefix a z) (sym e) (prefix_order a b l h k (omega arith));
      right_of = subst (λ (z : List (Entry C R)). IsPrefix b z) (sym e) (prefix_refl b);
      within = subst (λ (z : List (Entry C R)). IsPrefix z l) (sym e) k;
      which = inr e;
    })
    (λ (more : length b ≤ length a). let e : longer a b ≡ a = ap (λ t. cond t b a) (le-ltb (length a) (length b) more) in record {
      left_of = subst (λ (z : List (Entry C R)). IsPrefix a z) (sym e) (prefix_refl a);
      right_of = subst (λ (z : List (Entry C R)). IsPrefix b z) (sym e) (prefix_order b a l k h more);
      within = subst (λ (z : List (Entry C R)). IsPrefix z l) (sym e) h;
      which = inl e;
    })
    (cases_lt (length a) (length b))

module _ {O C R : Type 0} (object : Ghosts O C R) (first : O) where
  module _ (slots id : ℕ) (m : Me (Option O) (View O C R)) (idle : m.0.stage ≡ Idle) (s : State (Option O) (View O C R)) (r : Rule object first s) (at : get_elem? s.views id ≡ some m.0) where
    lives : living m.0.stage ≡ 1
    lives = ap living idle

    here : Sits object first r.log r.owner r.ticket r.serving id m.0
    here = place object first s r id m.0 at lives

    abbrev Late : View O C R
    Late = met_view m.0

    chosen : Best m.0.seen m.0.kept r.log
    chosen = best m.0.seen m.0.kept r.log here.has_seen here.has_kept

    late_sits : Sits object first r.log r.owner r.ticket r.serving id Late
    late_sits = record {
      first_is = here.first_is;
      number_is = here.number_is;
      root_is = here.root_is;
      plain = here.plain;
      has_seen = chosen.within;
      has_kept = (r.log, refl);
      own = here.own;
      own_seen = between id m.0.seen Late.seen r.log m.0.mine chosen.left_of chosen.within here.own_seen here.own;
      count = here.count;
      rests = λ _. idle;
      knows = subst (λ (g : Stage C R). Knows object first r.log r.owner r.ticket r.serving id Late.seen g) (sym idle) tt;
    }

    abbrev Met_state : State (Option O) (View O C R)
    Met_state = stepped s 7 (slice_index s.words 7) id m.1 Late keeps

    meet_rule : Rule object first Met_state
    meet_rule = quiet object first s r id m.0 Late (set s.words 7 (slice_index s.words 7)) s.homes at lives lives (refl, refl, refl) (loaded1 object first slots id m s r at)
        (omega (arith, r.room, glance_sum s id m.0 Late at)) refl late_sits
        (λ k x apart all h. inl (⊎_elim (λ (p : entries_of k m.0.seen ≡ x). between k m.0.seen Late.seen r.log x chosen.left_of chosen.within p all)
        (λ (p : entries_of k m.0.kept ≡ x). between k m.0.kept Late.seen r.log x chosen.right_of chosen.within p all) h))
        (λ has. inl (⊎_elim (λ (q : m.0.seen ≡ r.log). prefix_anti Late.seen r.log chosen.within (subst (λ (z : List (Entry C R)). IsPrefix z Late.seen) q chosen.left_of))
        (λ (q : m.0.kept ≡ r.log). prefix_anti Late.seen r.log chosen.within (subst (λ (z : List (Entry C R)). IsPrefix z Late.seen) q chosen.right_of)) has))
        (home_stays object first s r id m.0 Late at (ap working idle))

    in_place : get_elem? Met_state.views id ≡ some Late
    in_place = set_here s.views id Late (in_range s.views id m.0 at)

    meet_tells : Met object first m (Late, m.1)
    meet_tells = record {
      whole = refl;
      longer = ⊎_elim (λ (e : Late.seen ≡ m.0.seen). inl (e, chosen.right_of)) (λ (e : Late.seen ≡ m.0.kept). inr (e, chosen.left_of)) chosen.which;
      spent = λ alone counts. let n = some_count m.0.count counts in let known = (place object first Met_state meet_rule id Late in_place lives).count n.0 n.1 in
          omega (arith, known.0, known.1, ap length (alone_seen object first Met_state meet_rule id Late in_place lives alone refl), meet_rule.long, alone_served object first Met_state meet_rule id Late in_place lives alone (ap holding idle));
      sound = sound object first Met_state meet_rule id Late in_place lives refl;
    }

    pub meet_next : Next object first s id m 7 (λ n. n) (met object m)
    meet_next = (Late, keeps, tt, meet_rule, λ f f-is. from_first object first (λ (z : O). Met object z m (Late, m.1)) m.0 here.first_is meet_tells f f-is)

  pub meets : (slots id : ℕ) (m : Me (Option O) (View O C R)) → m.0.stage ≡ Idle → Allows (Rule object first) slots id m 7 (λ n. n) (met object m)
  meets slots id m idle s r _ at _ = meet_next slots id m idle s r at
