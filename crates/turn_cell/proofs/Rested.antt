-- A seat between two calls: after the start, a split and a meeting, and when its cell is closed.
use Rattle.std.proofs.Common.{◌≡◌, ℕ, ◌+◌, true, List, [], ◌∷◌, length, Option, Some, None, IsSome, refl, sym, ap, ◌∙◌, subst, inl, inr, ⊎_elim, arith, length-append}
use mathlib.Core.Option.{some, some-injective}
use mathlib.Core.List.{IsPrefix}
use lib.ListN.{get_elem?}
use Rattle.atomic_table.specs.Table.{Me, Final, Seen}
use Rattle.atomic_table.specs.declared.shared.Seat.{Seat}
use Rattle.turn_cell.specs.declared.entry.Entry.{Entry}
use Rattle.turn_cell.specs.declared.object.Object.{Ghosts}
use Rattle.turn_cell.specs.declared.view.Stage.TheVariants.{Idle}
use Rattle.turn_cell.specs.declared.view.View.{View}
use Rattle.turn_cell.specs.Sitting.{IsSound, IsAlone, Meets, either_count}
use Rattle.turn_cell.specs.Play.{shown, sitting, IsSoundView, Rests, Met, opening_view, parent_view, child_view, joined_view, met_view}
use Rattle.turn_cell.specs.Rule.{Rule}
use Rattle.turn_cell.proofs.Passes.{parent_sound, child_sound}
use Rattle.turn_cell.proofs.Ends.{opened_sound, closes}

module _ {O C R : Type 0} (object : Ghosts O C R) (first : O) where
  pub start_rests : (t : Seat (Option O) (View O C R)) (k : O) → k ≡ first → t.me ≡ (opening_view k, []) → object.stands first [] first → Rests object t 1 None
  start_rests t k same e stands = record {
    free = record { idle = ap (λ (m : Me (Option O) (View O C R)). m.0.stage) e; bare = ap (λ (m : Me (Option O) (View O C R)). m.1) e; done = ap (λ (m : Me (Option O) (View O C R)). m.0.kept) e };
    made_is = sym (ap (λ (m : Me (Option O) (View O C R)). m.0.made) e);
    count_is = sym (ap (λ (m : Me (Option O) (View O C R)). m.0.count) e);
    sound = λ f is. let named : Some k ≡ Some f = sym (ap (λ (m : Me (Option O) (View O C R)). m.0.first) e) ∙ is in let one : k ≡ f = cc in
        subst (λ (z : O × View O C R). IsSoundView object z.0 z.1) (λ i. ((sym same ∙ one) i, (ap (λ (x : O). opening_view x) (sym same) ∙ sym (ap (λ (m : Me (Option O) (View O C R)). m.0) e)) i)) (opened_sound object first stands);
  }

  parent_view_sound : (v : View O C R) → v.is_root ≡ true → IsSoundView object first v → IsSoundView object first (parent_view v)
  parent_view_sound v is ok table = parent_sound object first (shown table v) is (ok table)

  child_view_sound : (v : View O C R) → v.is_root ≡ true → IsSoundView object first v → IsSoundView object first (child_view v)
  child_view_sound v is ok table = child_sound object first (shown table v) is (ok table)

  -- as the clauses of a split say it
  pub split_sound : (t u w : Seat (Option O) (View O C R)) (l : List (ℕ × Option O)) → t.me.0.is_root ≡ true → IsSoundView object first t.me.0 → u.me ≡ (parent_view t.me.0, l) → w.me ≡ (child_view t.me.0, []) → IsSound object first (sitting u) × IsSound object first (sitting w)
  split_sound t u w l is ok e f = (
    subst (λ (z : View O C R). IsSoundView object first z) (sym (ap (λ (m : Me (Option O) (View O C R)). m.0) e)) (parent_view_sound t.me.0 is ok) u.table_id,
    subst (λ (z : View O C R). IsSoundView object first z) (sym (ap (λ (m : Me (Option O) (View O C R)). m.0) f)) (child_view_sound t.me.0 is ok) w.table_id,
  )

module _ {O C R : Type 0} (object : Ghosts O C R) (t u : Seat (Option O) (View O C R)) (made : ℕ) (count : Option ℕ) (rests : Rests object t made count) (is : t.me.0.is_root ≡ true) where
  pub parent_rests : u.me ≡ (parent_view t.me.0, t.me.1) → Rests object u (made + 1) count
  parent_rests e = record {
    free = record { idle = ap (λ (m : Me (Option O) (View O C R)). m.0.stage) e ∙ rests.free.idle; bare = ap (λ (m : Me (Option O) (View O C R)). m.1) e ∙ rests.free.bare; done = ap (λ (m : Me (Option O) (View O C R)). m.0.kept) e ∙ rests.free.done };
    made_is = ap (λ (n : ℕ). n + 1) rests.made_is ∙ sym (ap (λ (m : Me (Option O) (View O C R)). m.0.made) e);
    count_is = rests.count_is ∙ sym (ap (λ (m : Me (Option O) (View O C R)). m.0.count) e);
    sound = λ f named. subst (λ (z : View O C R). IsSoundView object f z) (sym (ap (λ (m : Me (Option O) (View O C R)). m.0) e)) (parent_view_sound object f t.me.0 is (rests.sound f (sym (ap (λ (m : Me (Option O) (View O C R)). m.0.first) e) ∙ named)));
  }

  pub child_rests : u.me ≡ (child_view t.me.0, []) → Rests object u 0 None
  child_rests e = record {
    free = record { idle = ap (λ (m : Me (Option O) (View O C R)). m.0.stage) e; bare = ap (λ (m : Me (Option O) (View O C R)). m.1) e; done = ap (λ (m : Me (Option O) (View O C R)). m.0.kept) e };
    made_is = sym (ap (λ (m : Me (Option O) (View O C R)). m.0.made) e);
    count_is = sym (ap (λ (m : Me (Option O) (View O C R)). m.0.count) e);
    sound = λ f named. subst (λ (z : View O C R). IsSoundView object f z) (sym (ap (λ (m : Me (Option O) (View O C R)). m.0) e)) (child_view_sound object f t.me.0 is (rests.sound f (sym (ap (λ (m : Me (Option O) (View O C R)). m.0.first) e) ∙ named)));
  }

-- the root t joins the seat o, which makes it j, and then meets it, which makes it u
module _ {O C R : Type 0} (object : Ghosts O C R) (t o j u : Seat (Option O) (View O C R)) (made : ℕ) (count : Option ℕ) (rests : Rests object t made count) (joined : j.me ≡ (joined_view t.me.0 o.me.0, t.me.1)) (tells : (f : O) → j.me.0.first ≡ Some f → Met object f j.me u.me) where
  abbrev Both : View O C R
  Both = joined_view t.me.0 o.me.0

  pub joined_idle : j.me.0.stage ≡ Idle
  joined_idle = ap (λ (m : Me (Option O) (View O C R)). m.0.stage) joined ∙ rests.free.idle

  named : (f : O) → t.me.0.first ≡ Some f → j.me.0.first ≡ Some f
  named f is = ap (λ (m : Me (Option O) (View O C R)). m.0.first) joined ∙ is

  now : (f : O) → t.me.0.first ≡ Some f → u.me ≡ (met_view Both, t.me.1)
  now f is = (tells f (named f is)).whole ∙ ap (λ (m : Me (Option O) (View O C R)). (met_view m.0, m.1)) joined

  pub meet_rests : (f : O) → t.me.0.first ≡ Some f → (made' : ℕ) (count' : Option ℕ) → Rests object o made' count' → Rests object u made (either_count count count')
  meet_rests f is made' count' other = let e = now f is in record {
    free = record { idle = ap (λ (m : Me (Option O) (View O C R)). m.0.stage) e ∙ rests.free.idle; bare = ap (λ (m : Me (Option O) (View O C R)). m.1) e ∙ rests.free.bare; done = ap (λ (m : Me (Option O) (View O C R)). m.0.kept) e };
    made_is = rests.made_is ∙ sym (ap (λ (m : Me (Option O) (View O C R)). m.0.made) e);
    count_is = (λ i. either_count (rests.count_is i) (other.count_is i)) ∙ sym (ap (λ (m : Me (Option O) (View O C R)). m.0.count) e);
    sound = λ g g-is. (tells g (named g (sym (ap (λ (m : Me (Option O) (View O C R)). m.0.first) e) ∙ g-is))).sound;
  }

  pub meet_told : (f : O) → t.me.0.first ≡ Some f → t.me.0.is_root ≡ true → u.table_id ≡ t.table_id → Meets object f (sitting t) (sitting o) (sitting u)
  meet_told f is root same = let e = now f is in let told = tells f (named f is) in let v-is : u.me.0 ≡ met_view Both = ap (λ (m : Me (Option O) (View O C R)). m.0) e in
      let before = (rests.sound f is t.table_id).parts root in let after = (told.sound u.table_id).parts (ap (λ (v : View O C R). v.is_root) v-is ∙ root) in record {
        longer = ⊎_elim (λ (h : (u.me.0.seen ≡ j.me.0.seen) × IsPrefix j.me.0.kept u.me.0.seen). inl (h.0 ∙ ap (λ (m : Me (Option O) (View O C R)). m.0.seen) joined, subst (λ (l : List (Entry C R)). IsPrefix l u.me.0.seen) (ap (λ (m : Me (Option O) (View O C R)). m.0.kept) joined) h.1))
            (λ (h : (u.me.0.seen ≡ j.me.0.kept) × IsPrefix j.me.0.seen u.me.0.seen). inr (h.0 ∙ ap (λ (m : Me (Option O) (View O C R)). m.0.kept) joined, subst (λ (l : List (Entry C R)). IsPrefix l u.me.0.seen) (ap (λ (m : Me (Option O) (View O C R)). m.0.seen) joined) h.1)) told.longer;
        whole = (λ i. shown (same i) (v-is i)) ∙ ap (λ (l : List (Entry C R)). shown t.table_id (record (met_view Both) { seen = l })) (sym (ap (λ (v : View O C R). v.seen) v-is));
        there = omega (arith, before, after, ap (λ (v : View O C R). v.made) v-is, ap (λ (v : View O C R). v.out) v-is, ap (λ (v : View O C R). length v.met) v-is, length-append t.me.0.met ((o.me.0.number, o.me.0.mine) ∷ []));
        spent = told.spent;
        sound = told.sound u.table_id;
      }

module _ {O C R : Type 0} (object : Ghosts O C R) (first : O) (t : Seat (Option O) (View O C R)) (made : ℕ) (count : Option ℕ) (rests : Rests object t made count) (alone : IsAlone (sitting t)) (words : List ℕ) (slots : List (Option O)) (final : Final (Seen (Rule object first) t.id t.me.0) words slots)
    (x : Option O) (there : get_elem? slots 0 ≡ some x) where
  left_over : (now : O) × (get_elem? slots 0 ≡ some (Some now)) × object.stands first t.me.0.seen now
  left_over = closes object first t.id t.me.0 words slots rests.free.idle rests.free.done alone final

  same_slot : x ≡ Some left_over.0
  same_slot = some-injective x (Some left_over.0) (sym there ∙ left_over.1)

  pub close_some : IsSome x
  close_some = subst (λ (z : Option O). IsSome z) (sym same_slot) refl

  pub close_stands : (o : O) → x ≡ Some o → object.stands first t.me.0.seen o
  close_stands o is = let both : Some left_over.0 ≡ Some o = sym same_slot ∙ is in let same : left_over.0 ≡ o = cc in subst (λ (z : O). object.stands first t.me.0.seen z) same left_over.2
