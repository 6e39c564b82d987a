-- A ticket, a look that misses or hits, and a decision.
use Rattle.std.proofs.Common.{◌≡◌, ◌≢◌, ℕ, ◌+◌, ◌%◌, ◌^◌, ◌<◌, ◌≤◌, min, eqb, cond, List, [], ◌∷◌, ◌++◌, length, set, slice_index, All, Option, Some, refl, sym, ap, ◌∙◌, subst, inl, inr, ⊎_elim, arith, append-nil, eq-eqb, ne_eqb}
use Rattle.std.proofs.Math.Nat.{mod-eq_of_lt}
use Rattle.std.specs.Int.Bits.{or_zero_r, bit_or}
use mathlib.Core.Logic.{dite}
use mathlib.Core.Option.{none, some}
use mathlib.Core.List.{append_cancel_left}
use native.Mathlib.Decide.{ℕ_discrete}
use base.Growing.{prefix_refl}
use lib.ListN.{get_elem?}
use Rattle.atomic_table.specs.Table.{State, Me, keeps, takes, Allows, stepped}
use Rattle.atomic_table.proofs.Lists.{set_here}
use Rattle.turn_cell.specs.declared.entry.Entry.{Entry}
use Rattle.turn_cell.specs.declared.object.Object.{Ghosts}
use Rattle.turn_cell.specs.declared.view.Stage.TheVariants.{Idle, Glanced, Waiting, InTurn, Decided}
use Rattle.turn_cell.specs.declared.view.View.{View}
use Rattle.turn_cell.specs.History.{entries_of, IsLegal}
use Rattle.turn_cell.specs.Play.{Hit, drew, looked, decided}
use Rattle.turn_cell.specs.Rule.{laid, glancing, holding, working, living, Knows, Sits, AtHome, AtWork, Rule}
use Rattle.turn_cell.proofs.Lists.{in_range, one_place}
use Rattle.turn_cell.proofs.Histories.{none_added, foreign}
use Rattle.turn_cell.proofs.Moved.{moved}
use Rattle.turn_cell.proofs.Known.{working_lives, working_owns, place, sound, alone_seen}
use Rattle.turn_cell.proofs.Steps.{holder_stays, work_here, glance_sum, hold_sum, quiet, restaged, home_stays, from_first, Next, tickets_found, serving_found, loaded1}

-- the owners of tickets after one more ticket is drawn
abbrev owned : (ℕ → ℕ) → ℕ → ℕ → ℕ → ℕ
owned owner ticket me n = cond (eqb n ticket) me (owner n)

owned_here : (owner : ℕ → ℕ) (ticket me n : ℕ) → n ≡ ticket → owned owner ticket me n ≡ me
owned_here owner ticket me n e = ap (λ b. cond b me (owner n)) (eq-eqb n ticket e)

owned_else : (owner : ℕ → ℕ) (ticket me n : ℕ) → n < ticket → owned owner ticket me n ≡ owner n
owned_else owner ticket me n less = ap (λ b. cond b me (owner n)) (ne_eqb n ticket (λ e. omega arith))

module _ {O C R : Type 0} (object : Ghosts O C R) (first : O) where
  pub draws : (slots id : ℕ) (m : Me (Option O) (View O C R)) → m.0.stage ≡ Glanced → Allows (Rule object first) slots id m 6 (λ n. (n + 1) % 2 ^ 64) (drew m)
  draws slots id m sees s r _ at _ = let n : ℕ = slice_index s.words 6 in let w : View O C R = record m.0 { stage = Waiting n } in let found = tickets_found object first slots id m s r at in let lives : living m.0.stage ≡ 1 = ap living sees in
      let st = place object first s r id m.0 at lives in let was : glancing m.0.stage ≡ 1 = ap glancing sees in let none : holding m.0.stage ≡ 0 = ap holding sees in (
        w,
        keeps,
        tt,
        moved object first s r id m.0 w (set s.words 6 ((n + 1) % 2 ^ 64)) s.homes record {
          at = at;
          lived = lives;
          lives = refl;
          made_same = refl;
          out_same = refl;
          met_same = refl;
          log = r.log;
          owner = owned r.owner r.ticket id;
          ticket = r.ticket + 1;
          serving = r.serving;
          words = ap (λ (ws : List ℕ). set ws 6 ((slice_index ws 6 + 1) % 2 ^ 64)) r.words ∙ ap (λ (t : ℕ). laid t r.serving) (let small : r.ticket + 1 < 2 ^ 64 = omega (arith, r.room) in mod-eq_of_lt small);
          room = omega (arith, r.room, was, glance_sum s id m.0 w at);
          held = omega (arith, r.held, none, hold_sum s id m.0 w at);
          legal = r.legal;
          long = r.long;
          made = r.made;
          grown = prefix_refl r.log;
          others = λ j other. refl;
          later = omega arith;
          tickets = λ k j other owns low high. (owned_else r.owner r.ticket id k high ∙ owns, low);
          turn = λ j other owns. (refl, refl);
          sits = record {
            first_is = st.first_is;
            number_is = st.number_is;
            root_is = st.root_is;
            plain = st.plain;
            has_seen = st.has_seen;
            has_kept = st.has_kept;
            own = st.own;
            own_seen = st.own_seen;
            count = λ k e. let c = st.count k e in (c.0, omega (arith, c.1));
            rests = λ shows. let both : Idle ≡ Glanced = sym (st.rests shows) ∙ sees in absurd (cc);
            knows = (owned_here r.owner r.ticket id n found, omega (arith, r.held, found), omega (arith, found));
          };
          still = λ k x other all h. h;
          whole = holder_stays s id m.0 w at r.log refl (λ h. h) r.whole;
          home = home_stays object first s r id m.0 w at (ap working sees);
        },
        refl,
      )

  module _ (slots id : ℕ) (m : Me (Option O) (View O C R)) (s : State (Option O) (View O C R)) (r : Rule object first s) (at : get_elem? s.views id ≡ some m.0) where
    module _ (q : ℕ) (waits : m.0.stage ≡ Waiting q) (done : m.0.kept ≡ []) where
      lives : living m.0.stage ≡ 1
      lives = ap living waits

      same_ticket : (n : ℕ) → m.0.stage ≡ Waiting n → q ≡ n
      same_ticket n is = let e : Waiting q ≡ Waiting n = sym waits ∙ is in cc

      look_misses : slice_index s.words 7 ≢ q → Next object first s id m 7 (λ n. n) (looked object m)
      look_misses other = (
        m.0,
        keeps,
        tt,
        quiet object first s r id m.0 m.0 (set s.words 7 (slice_index s.words 7)) s.homes at lives lives (refl, refl, refl) (loaded1 object first slots id m s r at)
            (omega (arith, r.room, glance_sum s id m.0 m.0 at)) refl (place object first s r id m.0 at lives) (λ k x apart all h. h) (λ h. h) (home_stays object first s r id m.0 m.0 at (ap working waits)),
        λ n is. ((λ _. refl), (λ hit f f-is. absurd (other (hit ∙ sym (same_ticket n is))))),
      )

      module _ (hit : slice_index s.words 7 ≡ q) where
        served : r.serving ≡ q
        served = sym (serving_found object first slots id m s r at) ∙ hit

        here : Sits object first r.log r.owner r.ticket r.serving id m.0
        here = place object first s r id m.0 at lives

        mine : (r.owner q ≡ id) × (r.serving ≤ q) × (q < r.ticket)
        mine = subst (Knows object first r.log r.owner r.ticket r.serving id m.0.seen) waits here.knows

        -- no other seat has the object
        no_worker : AtWork s.views → ⊥
        no_worker a = let there = place object first s r a.j a.v a.at (working_lives a.v.stage a.works) in
            let same : a.j ≡ id = sym (working_owns object first r.log r.owner r.ticket r.serving a.j a.v.seen a.v.stage a.works there.knows) ∙ (ap r.owner served ∙ mine.0) in
            let same_view = one_place s.views id a.v m.0 (subst (λ (z : ℕ). get_elem? s.views z ≡ some a.v) same a.at) at in
            let works : working m.0.stage ≡ 1 = ap (λ (z : View O C R). working z.stage) (sym same_view) ∙ a.works in let idle : working m.0.stage ≡ 0 = ap working waits in omega arith

        home : AtHome object first s.homes r.log
        home = ⊎_elim (λ (h : AtHome object first s.homes r.log). h) (λ (a : AtWork s.views). absurd (no_worker a)) r.home

        all : m.0.seen ++ here.has_seen.0 ≡ r.log
        all = here.has_seen.1

        abbrev Now : View O C R
        Now = record m.0 { seen = m.0.seen ++ here.has_seen.0; stage = InTurn q }

        hit_sits : Sits object first r.log r.owner r.ticket r.serving id (record m.0 { seen = m.0.seen ++ here.has_seen.0; stage = InTurn q })
        hit_sits = record {
          first_is = here.first_is;
          number_is = here.number_is;
          root_is = here.root_is;
          plain = here.plain;
          has_seen = ([], append-nil (m.0.seen ++ here.has_seen.0) ∙ all);
          has_kept = here.has_kept;
          own = here.own;
          own_seen = ap (entries_of id) all ∙ here.own;
          count = here.count;
          rests = λ shows. let both : Idle ≡ Waiting q = sym (here.rests shows) ∙ waits in absurd (cc);
          knows = (mine.0, sym served, mine.2, all);
        }

        abbrev Later : State (Option O) (View O C R)
        Later = stepped s 7 (slice_index s.words 7) id m.1 Now (takes 0 (Some home.now))

        hit_rule : Rule object first Later
        hit_rule = quiet object first s r id m.0 Now (set s.words 7 (slice_index s.words 7)) (set s.homes 0 none) at lives refl (refl, refl, refl) (loaded1 object first slots id m s r at)
            (let was : glancing m.0.stage ≡ 0 = ap glancing waits in omega (arith, r.room, was, glance_sum s id m.0 Now at)) (sym (ap holding waits)) hit_sits
            (λ k x apart all_of h. inl (ap (entries_of k) all ∙ all_of)) (λ h. inl all) (inr (work_here s id m.0 Now at refl))

        hit_tells : Hit object first m q (Now, (0, Some home.now) ∷ m.1)
        hit_tells = record {
          others = here.has_seen.0;
          now = home.now;
          foreign = subst (λ (k : ℕ). All (λ (entry : Entry C R). entry.seat ≢ k) here.has_seen.0) (sym here.number_is)
              (foreign id here.has_seen.0 (none_added id m.0.seen here.has_seen.0 m.0.mine here.own_seen (ap (entries_of id) all ∙ here.own)));
          alone = λ alone. append_cancel_left m.0.seen here.has_seen.0 [] (all ∙ sym (alone_seen object first s r id m.0 at lives alone done) ∙ sym (append-nil m.0.seen));
          whole = refl;
          long = ap length all ∙ r.long ∙ ap (λ (n : ℕ). min n (2 ^ 62)) served;
          stands = subst (λ (l : List (Entry C R)). object.stands first l home.now) (sym all) home.stands;
          sound = sound object first Later hit_rule id Now (set_here s.views id Now (in_range s.views id m.0 at)) refl done;
        }

        look_hits : Next object first s id m 7 (λ n. n) (looked object m)
        look_hits = (
          Now,
          takes 0 (Some home.now),
          ap (λ (hs : List (mathlib.Core.Option.Option (Option O))). get_elem? hs 0) home.there,
          hit_rule,
          λ n is. (
            (λ other. absurd (other (hit ∙ same_ticket n is))),
            (λ _ f f-is. subst (λ (k : ℕ). Hit object f m k (Now, (0, Some home.now) ∷ m.1)) (same_ticket n is)
                (from_first object first (λ (z : O). Hit object z m q (Now, (0, Some home.now) ∷ m.1)) m.0 here.first_is hit_tells f f-is)),
          ),
        )

      pub look_next : Next object first s id m 7 (λ n. n) (looked object m)
      look_next = dite (ℕ_discrete (slice_index s.words 7) q) look_hits look_misses

    module _ (q : ℕ) (e : Entry C R) (picked : Option (Entry C R)) (serves : m.0.stage ≡ InTurn q) (few : q < 2 ^ 62) (picks : picked ≡ Some e) (own : e.seat ≡ m.0.number) (legal : IsLegal object first (m.0.seen ++ e ∷ [])) where
      pub decide_next : Next object first s id m 7 (λ n. bit_or n 0) (decided picked m)
      decide_next = let w : View O C R = record m.0 { stage = Decided q e } in let lives : living m.0.stage ≡ 1 = ap living serves in let here = place object first s r id m.0 at lives in
          let knows : (r.owner q ≡ id) × (q ≡ r.serving) × (q < r.ticket) × (m.0.seen ≡ r.log) = subst (Knows object first r.log r.owner r.ticket r.serving id m.0.seen) serves here.knows in
          let was : glancing m.0.stage ≡ 0 = ap glancing serves in (
            w,
            keeps,
            tt,
            quiet object first s r id m.0 w (set s.words 7 (bit_or (slice_index s.words 7) 0)) s.homes at lives refl (refl, refl, refl)
                (ap (λ (ws : List ℕ). set ws 7 (bit_or (slice_index ws 7) 0)) r.words ∙ ap (λ (n : ℕ). laid r.ticket n) (or_zero_r r.serving))
                (omega (arith, r.room, was, glance_sum s id m.0 w at)) (sym (ap holding serves))
                (restaged object first r.log r.owner r.ticket r.serving id m.0 (Decided q e) here (λ shows. let both : Idle ≡ InTurn q = sym (here.rests shows) ∙ serves in absurd (cc)) (knows.0, knows.1, knows.2, knows.3, few, own ∙ here.number_is, subst (λ (l : List (Entry C R)). IsLegal object first (l ++ e ∷ [])) knows.3 legal))
                (λ k x apart all h. h) (λ h. h) (inr (work_here s id m.0 w at refl)),
            λ n f is picks'. let same : q ≡ n = (let both : InTurn q ≡ InTurn n = sym serves ∙ is in cc) in let same' : e ≡ f = (let both : Some e ≡ Some f = sym picks ∙ picks' in cc) in
                ap (λ (z : ℕ × Entry C R). (record m.0 { stage = Decided z.0 z.1 }, m.1)) (λ i. (same i, same' i)),
          )

  pub looks : (slots id : ℕ) (m : Me (Option O) (View O C R)) (q : ℕ) → m.0.stage ≡ Waiting q → m.0.kept ≡ [] → Allows (Rule object first) slots id m 7 (λ n. n) (looked object m)
  looks slots id m q waits done s r _ at _ = look_next slots id m s r at q waits done

  pub decides : (slots id : ℕ) (m : Me (Option O) (View O C R)) (q : ℕ) (e : Entry C R) (picked : Option (Entry C R)) → m.0.stage ≡ InTurn q → q < 2 ^ 62 → picked ≡ Some e → e.seat ≡ m.0.number → IsLegal object first (m.0.seen ++ e ∷ [])
      → Allows (Rule object first) slots id m 7 (λ n. bit_or n 0) (decided picked m)
  decides slots id m q e picked serves few picks own legal s r _ at _ = decide_next slots id m s r at q e picked serves few picks own legal
