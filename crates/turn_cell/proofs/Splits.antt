-- A seat is split off the root.
use Rattle.std.proofs.Common.{◌≡◌, ◌≢◌, ℕ, ◌+◌, ◌<◌, true, List, [], ◌∷◌, ◌++◌, length, set, sum_by, Option, refl, sym, ap, ◌∙◌, subst, inl, inr, ⊎_elim, arith, length-set, length-append, ne_eqb}
use Rattle.std.proofs.lemmas.List.Elements.{All-weaker}
use Rattle.std.proofs.lemmas.List.Sums.{sum_by_push}
use mathlib.Core.Option.{some}
use lib.ListN.{get_elem?}
use Rattle.atomic_table.specs.Table.{State, Splits}
use Rattle.atomic_table.proofs.Lists.{at_set, set_here, at_longer}
use Rattle.turn_cell.specs.declared.entry.Entry.{Entry}
use Rattle.turn_cell.specs.declared.object.Object.{Ghosts}
use Rattle.turn_cell.specs.declared.view.Stage.TheVariants.{Idle}
use Rattle.turn_cell.specs.declared.view.View.{View}
use Rattle.turn_cell.specs.Play.{parent_view, child_view}
use Rattle.turn_cell.specs.Rule.{glancing, holding, working, living, Sits, IsSpentAt, IsMet, Rooted, Holder, AtWork, Rule}
use Rattle.turn_cell.proofs.Lists.{in_range, sum_set, at_end}
use Rattle.turn_cell.proofs.Histories.{none_before, absent}
use Rattle.turn_cell.proofs.Known.{place, root_place, root_facts}
use Rattle.turn_cell.proofs.Steps.{holder_stays, work_stays}

module _ {O C R : Type 0} (object : Ghosts O C R) (first : O) where
  module _ (id : ℕ) (v : View O C R) (idle : v.stage ≡ Idle) (is : v.is_root ≡ true) (room : v.made < 65536) (s : State (Option O) (View O C R)) (r : Rule object first s) (at : get_elem? s.views id ≡ some v) where
    lives : living v.stage ≡ 1
    lives = ap living idle

    here : Sits object first r.log r.owner r.ticket r.serving id v
    here = place object first s r id v at lives

    facts : Rooted s.views r.log v
    facts = root_facts object first s r id v at lives is

    at_root : id ≡ 0
    at_root = root_place object first s r id v at lives is

    abbrev Parent : View O C R
    Parent = parent_view v

    abbrev Child : View O C R
    Child = child_view v

    abbrev Split : List (View O C R)
    Split = set s.views id Parent ++ Child ∷ []

    wide : length Split ≡ length s.views + 1
    wide = length-append (set s.views id Parent) (Child ∷ []) ∙ ap (λ (n : ℕ). n + 1) (length-set s.views id Parent)

    split_sum : (f : View O C R → ℕ) → sum_by f Split + f v ≡ sum_by f s.views + f Parent + f Child
    split_sum f = omega (arith, sum_by_push f (set s.views id Parent) Child, sum_set f s.views id v Parent at)

    parent_sits : Sits object first r.log r.owner r.ticket r.serving id Parent
    parent_sits = record {
      first_is = here.first_is;
      number_is = here.number_is;
      root_is = here.root_is;
      plain = λ no. absurd (no at_root);
      has_seen = here.has_seen;
      has_kept = here.has_kept;
      own = here.own;
      own_seen = here.own_seen;
      count = here.count;
      rests = here.rests;
      knows = here.knows;
    }

    child_sits : (j : ℕ) → j ≡ length s.views → Sits object first r.log r.owner r.ticket r.serving j Child
    child_sits j e = let many : id < length s.views = in_range s.views id v at in let nothing = absent (length s.views) j r.log (omega (arith, e)) r.made in record {
      first_is = here.first_is;
      number_is = facts.made ∙ sym e;
      root_is = sym (ne_eqb j 0 (λ z. omega (arith, e, many)));
      plain = λ _. (refl, refl, refl);
      has_seen = here.has_seen;
      has_kept = (r.log, refl);
      own = nothing;
      own_seen = none_before j v.seen r.log here.has_seen nothing;
      count = λ n z. absurd (cc);
      rests = λ _. refl;
      knows = tt;
    }

    split_each : (j : ℕ) (u : View O C R) → get_elem? Split j ≡ some u → living u.stage ≡ 1 → Sits object first r.log r.owner r.ticket r.serving j u
    split_each j u there alive = ⊎_elim
        (λ (a : get_elem? (set s.views id Parent) j ≡ some u). ⊎_elim (λ (t : (j ≡ id) × (Parent ≡ u)). subst (λ (z : ℕ × View O C R). Sits object first r.log r.owner r.ticket r.serving z.0 z.1) (λ i. (sym t.0 i, t.1 i)) parent_sits)
        (λ (t : (j ≢ id) × (get_elem? s.views j ≡ some u)). r.each j u t.1 alive) (at_set s.views id j Parent u a))
        (λ (t : (j ≡ length (set s.views id Parent)) × (Child ≡ u)). subst (λ (z : View O C R). Sits object first r.log r.owner r.ticket r.serving j z) t.1 (child_sits j (t.0 ∙ length-set s.views id Parent)))
        (at_end (set s.views id Parent) Child u j there)

    split_gone : (k : ℕ) → k < length s.views → IsSpentAt s.views k → IsSpentAt Split k
    split_gone k small gone u there = ⊎_elim
        (λ (a : get_elem? (set s.views id Parent) k ≡ some u). ⊎_elim (λ (t : (k ≡ id) × (Parent ≡ u)). let dead : living v.stage ≡ 0 = gone v (subst (λ (z : ℕ). get_elem? s.views z ≡ some v) (sym t.0) at) in let alive : living v.stage ≡ 1 = lives in absurd (omega arith))
        (λ (t : (k ≢ id) × (get_elem? s.views k ≡ some u)). gone u t.1) (at_set s.views id k Parent u a))
        (λ (t : (k ≡ length (set s.views id Parent)) × (Child ≡ u)). absurd (omega (arith, t.0, small, length-set s.views id Parent)))
        (at_end (set s.views id Parent) Child u k there)

    split_met : (p : ℕ × List (Entry C R)) → IsMet s.views r.log v p → IsMet Split r.log Parent p
    split_met p ok = record { made = omega (arith, ok.made, wide); gone = split_gone p.0 ok.made ok.gone; all = ok.all; seen = ok.seen }

    split_holder : Holder Split r.log
    split_holder = let h = holder_stays s id v Parent at r.log lives (λ x. x) r.whole in record { j = h.j; v = h.v; at = at_longer (set s.views id Parent) (Child ∷ []) h.j h.v h.at; lives = h.lives; has = h.has }

    split_work : AtWork s.views → AtWork Split
    split_work a = let b = work_stays s id v Parent at (ap working idle) a in record { j = b.j; v = b.v; at = at_longer (set s.views id Parent) (Child ∷ []) b.j b.v b.at; works = b.works }

    pub split_rule : Rule object first record { words = s.words; homes = s.homes; views = set s.views id Parent ++ Child ∷ [] }
    split_rule = record {
      log = r.log;
      owner = r.owner;
      ticket = r.ticket;
      serving = r.serving;
      words = r.words;
      few = omega (arith, wide, facts.made, room);
      room = omega (arith, r.room, split_sum (λ (u : View O C R). glancing u.stage));
      held = omega (arith, r.held, split_sum (λ (u : View O C R). holding u.stage));
      legal = r.legal;
      long = r.long;
      made = All-weaker (λ (entry : Entry C R). entry.seat < length s.views) (λ (entry : Entry C R). entry.seat < length Split) (λ entry small. omega (arith, small, wide)) r.log r.made;
      each = split_each;
      root = Parent;
      root_at = at_longer (set s.views id Parent) (Child ∷ []) 0 Parent (subst (λ (z : ℕ). get_elem? (set s.views id Parent) z ≡ some Parent) at_root (set_here s.views id Parent (in_range s.views id v at)));
      rooted = record {
        lives = lives;
        made = ap (λ (n : ℕ). n + 1) facts.made ∙ sym wide;
        parts = omega (arith, facts.parts);
        out = omega (arith, facts.out, lives, split_sum (λ (u : View O C R). living u.stage));
        met = All-weaker (IsMet s.views r.log v) (IsMet Split r.log Parent) split_met v.met facts.met;
      };
      whole = split_holder;
      home = ⊎_elim inl (λ (a : AtWork s.views). inr (split_work a)) r.home;
    }

  pub splits : (id : ℕ) (v : View O C R) → v.stage ≡ Idle → v.is_root ≡ true → v.made < 65536 → Splits (Rule object first) id v (parent_view v) (child_view v)
  splits id v idle is room s r at = split_rule id v idle is room s r at
