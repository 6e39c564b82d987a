-- A seat is joined to the root, which keeps what both had seen.
use Rattle.std.proofs.Common.{◌≡◌, ◌≢◌, ℕ, ◌+◌, ◌^◌, ◌<◌, ◌≤◌, true, List, [], ◌∷◌, length, set, All, sum_by, Option, Some, None, sym, ap, ◌∙◌, subst, inl, inr, ⊎_elim, arith, length-set, length-append}
use Rattle.std.proofs.lemmas.List.Elements.{All-weaker, All-push}
use mathlib.Core.Logic.{dite}
use mathlib.Core.Option.{some}
use native.Mathlib.Decide.{ℕ_discrete}
use lib.ListN.{get_elem?}
use Rattle.atomic_table.specs.Table.{State, Joins}
use Rattle.atomic_table.proofs.Lists.{at_set, set_here, set_else}
use Rattle.turn_cell.specs.declared.entry.Entry.{Entry}
use Rattle.turn_cell.specs.declared.object.Object.{Ghosts}
use Rattle.turn_cell.specs.declared.view.Stage.TheVariants.{Idle}
use Rattle.turn_cell.specs.declared.view.View.{View}
use Rattle.turn_cell.specs.History.{entries_of}
use Rattle.turn_cell.specs.Sitting.{either_count}
use Rattle.turn_cell.specs.Play.{spent_view, joined_view}
use Rattle.turn_cell.specs.Rule.{glancing, holding, working, living, Sits, IsSpentAt, IsMet, Rooted, Holder, AtWork, Rule}
use Rattle.turn_cell.proofs.Lists.{in_range, one_place, sum_set, sum_at}
use Rattle.turn_cell.proofs.Known.{only_nothing, place, root_place, root_facts, met_seen}
use Rattle.turn_cell.proofs.Steps.{holder_stays, work_stays}

counted_either : (P : ℕ → Type 0) (a b : Option ℕ) → ((n : ℕ) → a ≡ Some n → P n) → ((n : ℕ) → b ≡ Some n → P n) → (n : ℕ) → either_count a b ≡ Some n → P n
counted_either P (Some k) b one two n e = one n e
counted_either P None b one two n e = two n e

module _ {O C R : Type 0} (object : Ghosts O C R) (first : O) where
  module _ (id : ℕ) (v : View O C R) (other : ℕ) (w : View O C R) (idle : v.stage ≡ Idle) (is : v.is_root ≡ true) (done : v.kept ≡ []) (idle' : w.stage ≡ Idle) (done' : w.kept ≡ [])
      (s : State (Option O) (View O C R)) (r : Rule object first s) (at : get_elem? s.views id ≡ some v) (apart : other ≢ id) (at' : get_elem? (set s.views id (joined_view v w)) other ≡ some w) where
    abbrev Joined : View O C R
    Joined = joined_view v w

    abbrev Half : List (View O C R)
    Half = set s.views id Joined

    abbrev Whole : List (View O C R)
    Whole = set Half other spent_view

    alive : living v.stage ≡ 1
    alive = ap living idle

    alive' : living w.stage ≡ 1
    alive' = ap living idle'

    there : get_elem? s.views other ≡ some w
    there = sym (set_else s.views id other Joined apart) ∙ at'

    one : Sits object first r.log r.owner r.ticket r.serving id v
    one = place object first s r id v at alive

    two : Sits object first r.log r.owner r.ticket r.serving other w
    two = place object first s r other w there alive'

    root : Rooted s.views r.log v
    root = root_facts object first s r id v at alive is

    first_place : id ≡ 0
    first_place = root_place object first s r id v at alive is

    as_long : length Whole ≡ length s.views
    as_long = length-set Half other spent_view ∙ length-set s.views id Joined

    in_half : get_elem? Half id ≡ some Joined
    in_half = set_here s.views id Joined (in_range s.views id v at)

    in_whole : get_elem? Whole id ≡ some Joined
    in_whole = set_else Half other id spent_view (λ e. apart (sym e)) ∙ in_half

    join_sum : (f : View O C R → ℕ) → sum_by f Whole + f w + f v ≡ sum_by f s.views + f Joined + f (spent_view {O = O} {C = C} {R = R})
    join_sum f = omega (arith, sum_set f Half other w spent_view at', sum_set f s.views id v Joined at)

    joined_sits : Sits object first r.log r.owner r.ticket r.serving id Joined
    joined_sits = record {
      first_is = one.first_is;
      number_is = one.number_is;
      root_is = one.root_is;
      plain = λ no. absurd (no first_place);
      has_seen = one.has_seen;
      has_kept = two.has_seen;
      own = one.own;
      own_seen = one.own_seen;
      count = counted_either (λ (n : ℕ). (2 ^ 62 ≤ n) × (n ≤ r.ticket)) v.count w.count one.count two.count;
      rests = λ _. idle;
      knows = one.knows;
    }

    dead : (u : View O C R) → spent_view ≡ u → living u.stage ≡ 0
    dead u e = ap (λ (z : View O C R). living z.stage) (sym e)

    join_each : (j : ℕ) (u : View O C R) → get_elem? Whole j ≡ some u → living u.stage ≡ 1 → Sits object first r.log r.owner r.ticket r.serving j u
    join_each j u found lives = ⊎_elim (λ (t : (j ≡ other) × (spent_view ≡ u)). let gone = dead u t.1 in absurd (omega arith))
        (λ (t : (j ≢ other) × (get_elem? Half j ≡ some u)). ⊎_elim (λ (q : (j ≡ id) × (Joined ≡ u)). subst (λ (z : ℕ × View O C R). Sits object first r.log r.owner r.ticket r.serving z.0 z.1) (λ i. (sym q.0 i, q.1 i)) joined_sits)
        (λ (q : (j ≢ id) × (get_elem? s.views j ≡ some u)). r.each j u q.1 lives) (at_set s.views id j Joined u t.1)) (at_set Half other j spent_view u found)

    join_gone : (k : ℕ) → IsSpentAt s.views k → IsSpentAt Whole k
    join_gone k gone u found = ⊎_elim (λ (t : (k ≡ other) × (spent_view ≡ u)). dead u t.1)
        (λ (t : (k ≢ other) × (get_elem? Half k ≡ some u)). ⊎_elim (λ (q : (k ≡ id) × (Joined ≡ u)). let no : living v.stage ≡ 0 = gone v (subst (λ (z : ℕ). get_elem? s.views z ≡ some v) (sym q.0) at) in let yes' : living v.stage ≡ 1 = alive in absurd (omega arith))
        (λ (q : (k ≢ id) × (get_elem? s.views k ≡ some u)). gone u q.1) (at_set s.views id k Joined u t.1)) (at_set Half other k spent_view u found)

    join_met : (p : ℕ × List (Entry C R)) → IsMet s.views r.log v p → IsMet Whole r.log Joined p
    join_met p ok = record { made = omega (arith, ok.made, as_long); gone = join_gone p.0 ok.gone; all = ok.all; seen = inl (met_seen object first s r id v at alive done p ok) }

    join_new : IsMet Whole r.log Joined (w.number, w.mine)
    join_new = record {
      made = omega (arith, two.number_is, in_range s.views other w there, as_long);
      gone = subst (λ (k : ℕ). IsSpentAt Whole k) (sym two.number_is) (λ u found. dead u (one_place Whole other spent_view u (set_here Half other spent_view (in_range Half other w at')) found));
      all = ap (λ (k : ℕ). entries_of k r.log) two.number_is ∙ two.own;
      seen = inr (ap (λ (k : ℕ). entries_of k w.seen) two.number_is ∙ two.own_seen);
    }

    join_holder : Holder Whole r.log
    join_holder = spread (holder_stays s id v Joined at r.log alive
        (λ has. inl (⊎_elim (λ (q : v.seen ≡ r.log). q) (λ (q : v.kept ≡ r.log). let nothing : r.log ≡ [] = sym q ∙ done in only_nothing v.seen r.log one.has_seen nothing ∙ sym nothing) has)) r.whole)
      where
        -- whoever has seen all is not the seat that is spent, or the root keeps what it had seen
        spread : Holder Half r.log → Holder Whole r.log
        spread h = dite (ℕ_discrete h.j other)
            (λ (e : h.j ≡ other). let same = one_place Half other h.v w (subst (λ (z : ℕ). get_elem? Half z ≡ some h.v) e h.at) at' in record {
              j = id;
              v = Joined;
              at = in_whole;
              lives = alive;
              has = inr (⊎_elim (λ (q : h.v.seen ≡ r.log). ap (λ (z : View O C R). z.seen) (sym same) ∙ q)
                  (λ (q : h.v.kept ≡ r.log). let nothing : r.log ≡ [] = sym q ∙ ap (λ (z : View O C R). z.kept) same ∙ done' in only_nothing w.seen r.log two.has_seen nothing ∙ sym nothing) h.has);
            })
            (λ (far : h.j ≢ other). record { j = h.j; v = h.v; at = set_else Half other h.j spent_view far ∙ h.at; lives = h.lives; has = h.has })

    half_state : State (Option O) (View O C R)
    half_state = record { words = s.words; homes = s.homes; views = Half }

    join_work : AtWork s.views → AtWork Whole
    unfolding half_state
    join_work a = work_stays half_state other w spent_view at' (ap working idle') (work_stays s id v Joined at (ap working idle) a)

    -- the root had split the other off
    pub join_out : 0 < v.out
    join_out = let total = join_sum (λ (u : View O C R). living u.stage) in let rest = sum_at (λ (u : View O C R). living u.stage) Whole id Joined in_whole in let lives : living v.stage ≡ 1 = alive in let lives' : living w.stage ≡ 1 = alive' in
        omega (arith, root.out, total, rest)

    pub join_rule : Rule object first record { words = s.words; homes = s.homes; views = Whole }
    join_rule = record {
      log = r.log;
      owner = r.owner;
      ticket = r.ticket;
      serving = r.serving;
      words = r.words;
      few = omega (arith, as_long, r.few);
      room = omega (arith, r.room, join_sum (λ (u : View O C R). glancing u.stage));
      held = let nought : holding w.stage ≡ 0 = ap holding idle' in omega (arith, r.held, nought, join_sum (λ (u : View O C R). holding u.stage));
      legal = r.legal;
      long = r.long;
      made = subst (λ (n : ℕ). All (λ (entry : Entry C R). entry.seat < n) r.log) (sym as_long) r.made;
      each = join_each;
      root = Joined;
      root_at = subst (λ (z : ℕ). get_elem? Whole z ≡ some Joined) first_place in_whole;
      rooted = record {
        lives = alive;
        made = root.made ∙ sym as_long;
        parts = omega (arith, root.parts, join_out, length-append v.met ((w.number, w.mine) ∷ []));
        out = let lives : living v.stage ≡ 1 = alive in let lives' : living w.stage ≡ 1 = alive' in omega (arith, root.out, join_out, join_sum (λ (u : View O C R). living u.stage));
        met = All-push (IsMet Whole r.log Joined) v.met (w.number, w.mine) (All-weaker (IsMet s.views r.log v) (IsMet Whole r.log Joined) join_met v.met root.met) join_new;
      };
      whole = join_holder;
      home = ⊎_elim inl (λ (a : AtWork s.views). inr (join_work a)) r.home;
    }

  pub joins : (id : ℕ) (v : View O C R) (other : ℕ) (w : View O C R) → v.stage ≡ Idle → v.is_root ≡ true → v.kept ≡ [] → w.stage ≡ Idle → w.kept ≡ [] → Joins (Rule object first) id v other w (joined_view v w) spent_view
  joins id v other w idle is done idle' done' s r at apart at' = join_rule id v other w idle is done idle' done' s r at apart at'
