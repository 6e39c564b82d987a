-- The steps of a seat that leave the history as it is: a glance, a ticket, a look that misses or hits, a decision.
use Rattle.std.proofs.Common.{◌≡◌, ◌≢◌, ◌⊎◌, ℕ, ◌+◌, ◌^◌, ◌<◌, ◌≤◌, List, [], length, set, slice_index, sum_by, Option, Some, IsSome, refl, sym, ap, ◌∙◌, subst, inl, inr, ⊎_elim, arith, length-set}
use Rattle.std.proofs.lemmas.Bool.{cases_lt}
use mathlib.Core.Logic.{dite}
use mathlib.Core.Option.{none, some}
use mathlib.Core.Option as maybe
use native.Mathlib.Decide.{ℕ_discrete}
use base.Growing.{prefix_refl}
use lib.ListN.{get_elem?}
use Rattle.atomic_table.specs.Table.{State, Me, Act, keeps, Allows, Valid, stepped, carried_after}
use Rattle.atomic_table.proofs.Lists.{set_here, set_else}
use Rattle.turn_cell.specs.declared.entry.Entry.{Entry}
use Rattle.turn_cell.specs.declared.object.Object.{Ghosts}
use Rattle.turn_cell.specs.declared.view.Stage.{Stage}
use Rattle.turn_cell.specs.declared.view.Stage.TheVariants.{Idle, Glanced}
use Rattle.turn_cell.specs.declared.view.View.{View}
use Rattle.turn_cell.specs.History.{entries_of}
use Rattle.turn_cell.specs.Play.{IsAloneView, IsSoundView, glanced}
use Rattle.turn_cell.specs.Rule.{laid, glancing, holding, working, living, Knows, Sits, Holder, AtHome, AtWork, Rule}
use Rattle.turn_cell.proofs.Lists.{in_range, one_place, sum_set, sum_le_length}
use Rattle.turn_cell.proofs.Moved.{moved}
use Rattle.turn_cell.proofs.Known.{glancing_small, some_count, place, sound, alone_seen, alone_served}

module _ {O C R : Type 0} (s : State (Option O) (View O C R)) (me : ℕ) (v w : View O C R) (at : get_elem? s.views me ≡ some v) where
  -- who has seen all stays, unless the seat that steps has it and loses it
  pub holder_stays : (log : List (Entry C R)) → living w.stage ≡ 1 → ((v.seen ≡ log) ⊎ (v.kept ≡ log) → (w.seen ≡ log) ⊎ (w.kept ≡ log)) → Holder s.views log → Holder (set s.views me w) log
  holder_stays log lives stays h = dite (ℕ_discrete h.j me)
      (λ (e : h.j ≡ me). let same = one_place s.views me h.v v (subst (λ (z : ℕ). get_elem? s.views z ≡ some h.v) e h.at) at in record {
        j = me;
        v = w;
        at = set_here s.views me w (in_range s.views me v at);
        lives = lives;
        has = stays (subst (λ (z : View O C R). (z.seen ≡ log) ⊎ (z.kept ≡ log)) same h.has);
      })
      (λ (other : h.j ≢ me). record { j = h.j; v = h.v; at = set_else s.views me h.j w other ∙ h.at; lives = h.lives; has = h.has })

  pub holder_here : (log : List (Entry C R)) → living w.stage ≡ 1 → w.seen ≡ log → Holder (set s.views me w) log
  holder_here log lives has = record { j = me; v = w; at = set_here s.views me w (in_range s.views me v at); lives = lives; has = inl has }

  pub work_here : working w.stage ≡ 1 → AtWork (set s.views me w)
  work_here works = record { j = me; v = w; at = set_here s.views me w (in_range s.views me v at); works = works }

  pub work_stays : working v.stage ≡ 0 → AtWork s.views → AtWork (set s.views me w)
  work_stays idle a = dite (ℕ_discrete a.j me)
      (λ (e : a.j ≡ me). let same = one_place s.views me a.v v (subst (λ (z : ℕ). get_elem? s.views z ≡ some a.v) e a.at) at in let works : working v.stage ≡ 1 = ap (λ (z : View O C R). working z.stage) (sym same) ∙ a.works in absurd (omega arith))
      (λ (other : a.j ≢ me). record { j = a.j; v = a.v; at = set_else s.views me a.j w other ∙ a.at; works = a.works })

  pub glance_sum : sum_by (λ (u : View O C R). glancing u.stage) (set s.views me w) + glancing v.stage ≡ sum_by (λ (u : View O C R). glancing u.stage) s.views + glancing w.stage
  glance_sum = sum_set (λ (u : View O C R). glancing u.stage) s.views me v w at

  pub hold_sum : sum_by (λ (u : View O C R). holding u.stage) (set s.views me w) + holding v.stage ≡ sum_by (λ (u : View O C R). holding u.stage) s.views + holding w.stage
  hold_sum = sum_set (λ (u : View O C R). holding u.stage) s.views me v w at

module _ {O C R : Type 0} (object : Ghosts O C R) (first : O) where
  -- a step that changes neither the history nor the words
  pub quiet : (s : State (Option O) (View O C R)) (r : Rule object first s) (me : ℕ) (v w : View O C R) (words' : List ℕ) (homes' : List (maybe.Option (Option O))) → get_elem? s.views me ≡ some v → living v.stage ≡ 1 → living w.stage ≡ 1
      → (w.made ≡ v.made) × (w.out ≡ v.out) × (w.met ≡ v.met) → words' ≡ laid r.ticket r.serving → r.ticket + sum_by (λ (u : View O C R). glancing u.stage) (set s.views me w) ≤ 2 ^ 62 + 65536
      → holding w.stage ≡ holding v.stage → Sits object first r.log r.owner r.ticket r.serving me w
      → ((k : ℕ) (x : List (Entry C R)) → k ≢ me → entries_of k r.log ≡ x → (entries_of k v.seen ≡ x) ⊎ (entries_of k v.kept ≡ x) → (entries_of k w.seen ≡ x) ⊎ (entries_of k w.kept ≡ x))
      → ((v.seen ≡ r.log) ⊎ (v.kept ≡ r.log) → (w.seen ≡ r.log) ⊎ (w.kept ≡ r.log)) → AtHome object first homes' r.log ⊎ AtWork (set s.views me w)
      → Rule object first record { words = words'; homes = homes'; views = set s.views me w }
  quiet s r me v w words' homes' at lived lives same words room holds sits still has home = moved object first s r me v w words' homes' record {
    at = at;
    lived = lived;
    lives = lives;
    made_same = same.0;
    out_same = same.1;
    met_same = same.2;
    log = r.log;
    owner = r.owner;
    ticket = r.ticket;
    serving = r.serving;
    words = words;
    room = room;
    held = omega (arith, r.held, holds, hold_sum s me v w at);
    legal = r.legal;
    long = r.long;
    made = r.made;
    grown = prefix_refl r.log;
    others = λ j other. refl;
    later = omega arith;
    tickets = λ n j other owns low high. (owns, low);
    turn = λ j other owns. (refl, refl);
    sits = sits;
    still = still;
    whole = holder_stays s me v w at r.log lives has r.whole;
    home = home;
  }

  -- the seat's stage alone changes
  pub restaged : (log : List (Entry C R)) (owner : ℕ → ℕ) (ticket serving j : ℕ) (v : View O C R) (g : Stage C R) → Sits object first log owner ticket serving j v → (IsSome v.count → g ≡ Idle) → Knows object first log owner ticket serving j v.seen g
      → Sits object first log owner ticket serving j (record v { stage = g })
  restaged log owner ticket serving j v g st rests knows = record {
    first_is = st.first_is;
    number_is = st.number_is;
    root_is = st.root_is;
    plain = st.plain;
    has_seen = st.has_seen;
    has_kept = st.has_kept;
    own = st.own;
    own_seen = st.own_seen;
    count = st.count;
    rests = rests;
    knows = knows;
  }

  -- the seat's count alone changes
  pub counted : (log : List (Entry C R)) (owner : ℕ → ℕ) (ticket serving j : ℕ) (v : View O C R) (n : ℕ) → Sits object first log owner ticket serving j v → v.stage ≡ Idle → 2 ^ 62 ≤ n → n ≤ ticket
      → Sits object first log owner ticket serving j (record v { count = Some n })
  counted log owner ticket serving j v n st idle late known = record {
    first_is = st.first_is;
    number_is = st.number_is;
    root_is = st.root_is;
    plain = st.plain;
    has_seen = st.has_seen;
    has_kept = st.has_kept;
    own = st.own;
    own_seen = st.own_seen;
    count = λ k e. let same : n ≡ k = cc in (omega arith, omega arith);
    rests = λ _. idle;
    knows = st.knows;
  }

  pub home_stays : (s : State (Option O) (View O C R)) (r : Rule object first s) (me : ℕ) (v w : View O C R) → get_elem? s.views me ≡ some v → working v.stage ≡ 0 → AtHome object first s.homes r.log ⊎ AtWork (set s.views me w)
  home_stays s r me v w at idle = ⊎_elim inl (λ (a : AtWork s.views). inr (work_stays s me v w at idle a)) r.home

  -- what holds from the object that the cell began with holds from any that the view names
  pub from_first : (P : O → Type 0) (v : View O C R) → v.first ≡ Some first → P first → (f : O) → v.first ≡ Some f → P f
  from_first P v is p f is' = let same : first ≡ f = cc in subst P same p

  -- the state after a step on the word i, which becomes n, with an act
  abbrev pub after : State (Option O) (View O C R) → ℕ → ℕ → ℕ → Me (Option O) (View O C R) → View O C R → Act (Option O) → State (Option O) (View O C R)
  after s i n id m w a = stepped s i n id m.1 w a

  -- what a step on the word i, which becomes f of what it was, owes
  abbrev pub Next : State (Option O) (View O C R) → ℕ → Me (Option O) (View O C R) → ℕ → (ℕ → ℕ) → (ℕ → Me (Option O) (View O C R) → Type 0) → Type 0
  Next s id m i f told = (w : View O C R) × (a : Act (Option O)) × Valid s.homes m.1 a × Rule object first (stepped s i (f (slice_index s.words i)) id m.1 w a) × told (slice_index s.words i) (w, carried_after m.1 a)

  module _ (slots id : ℕ) (m : Me (Option O) (View O C R)) (s : State (Option O) (View O C R)) (r : Rule object first s) (at : get_elem? s.views id ≡ some m.0) where
    abbrev Found : ℕ
    Found = slice_index s.words 6

    pub tickets_found : slice_index s.words 6 ≡ r.ticket
    tickets_found = ap (λ (ws : List ℕ). slice_index ws 6) r.words

    pub serving_found : slice_index s.words 7 ≡ r.serving
    serving_found = ap (λ (ws : List ℕ). slice_index ws 7) r.words

    pub loaded0 : set s.words 6 (slice_index s.words 6) ≡ laid r.ticket r.serving
    loaded0 = ap (λ (ws : List ℕ). set ws 6 (slice_index ws 6)) r.words

    pub loaded1 : set s.words 7 (slice_index s.words 7) ≡ laid r.ticket r.serving
    loaded1 = ap (λ (ws : List ℕ). set ws 7 (slice_index ws 7)) r.words

    module _ (idle : m.0.stage ≡ Idle) (done : m.0.kept ≡ []) where
      glance_left : slice_index s.words 6 < 2 ^ 62 → Next s id m 6 (λ n. n) (glanced object m)
      glance_left few = let w : View O C R = record m.0 { stage = Glanced } in let found = tickets_found in let here = place object first s r id m.0 at (ap living idle) in (
        w,
        keeps,
        tt,
        quiet s r id m.0 w (set s.words 6 (slice_index s.words 6)) s.homes at (ap living idle) refl (refl, refl, refl) loaded0
            (omega (arith, found, few, sum_le_length (λ (u : View O C R). glancing u.stage) (λ u. glancing_small u.stage) (set s.views id w), length-set s.views id w, r.few))
            (sym (ap holding idle)) (restaged r.log r.owner r.ticket r.serving id m.0 Glanced here (λ shows. let n = some_count m.0.count shows in absurd (omega (arith, found, few, here.count n.0 n.1))) tt) (λ k x other all h. h) (λ h. h) (home_stays s r id m.0 w at (ap working idle)),
        ((λ _. refl), (λ late. absurd (omega arith))),
      )

      glance_past : 2 ^ 62 ≤ slice_index s.words 6 → Next s id m 6 (λ n. n) (glanced object m)
      glance_past late = let n : ℕ = slice_index s.words 6 in let w : View O C R = record m.0 { count = Some n } in let found = tickets_found in let lives : living m.0.stage ≡ 1 = ap living idle in
          let rule : Rule object first (stepped s 6 n id m.1 w keeps) = quiet s r id m.0 w (set s.words 6 n) s.homes at lives lives (refl, refl, refl) loaded0
          (omega (arith, r.room, glance_sum s id m.0 w at)) refl (counted r.log r.owner r.ticket r.serving id m.0 n (place object first s r id m.0 at lives) idle late (omega (arith, found)))
          (λ k x other all h. h) (λ h. h) (home_stays s r id m.0 w at (ap working idle)) in (
            w,
            keeps,
            tt,
            rule,
            (
              (λ few. absurd (omega arith)),
              (λ _. (
                refl,
                from_first (λ (f : O). IsSoundView object f w × (IsAloneView m.0 → length m.0.seen ≡ 2 ^ 62)) m.0 (place object first s r id m.0 at lives).first_is (
                  sound object first (stepped s 6 n id m.1 w keeps) rule id w (set_here s.views id w (in_range s.views id m.0 at)) lives done,
                  λ alone. omega (arith, found, late, ap length (alone_seen object first s r id m.0 at lives alone done), r.long, alone_served object first s r id m.0 at lives alone (ap holding idle)),
                ),
              )),
            ),
          )

      pub glance_next : Next s id m 6 (λ n. n) (glanced object m)
      glance_next = ⊎_elim glance_left glance_past (cases_lt (slice_index s.words 6) (2 ^ 62))

  pub glances : (slots id : ℕ) (m : Me (Option O) (View O C R)) → m.0.stage ≡ Idle → m.0.kept ≡ [] → Allows (Rule object first) slots id m 6 (λ n. n) (glanced object m)
  glances slots id m idle done s r _ at _ = glance_next slots id m s r at idle done
