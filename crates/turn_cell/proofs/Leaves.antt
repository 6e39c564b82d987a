-- A seat leaves its turn: with its entry, or past the last one.
use Rattle.std.proofs.Common.{◌≡◌, ◌≢◌, ◌⊎◌, ℕ, ◌+◌, ◌%◌, ◌^◌, ◌<◌, ◌≤◌, min, List, [], ◌∷◌, ◌++◌, length, set, slice_index, All, Option, Some, refl, sym, ap, ◌∙◌, subst, inl, inr, ⊎_elim, arith, append-nil, length-append}
use Rattle.std.proofs.lemmas.List.Elements.{All-push}
use Rattle.std.proofs.Math.Nat.{mod-eq_of_lt}
use mathlib.Core.Option.{some}
use mathlib.Core.List.{IsPrefix}
use base.Growing.{prefix_refl}
use lib.ListN.{get_elem?}
use Rattle.atomic_table.specs.Table.{State, Me, gives, Allows, stepped, carried_after, homes_after, put_back}
use Rattle.atomic_table.proofs.Lists.{set_here}
use Rattle.turn_cell.specs.declared.entry.Entry.{Entry}
use Rattle.turn_cell.specs.declared.object.Object.{Ghosts}
use Rattle.turn_cell.specs.declared.view.Stage.TheVariants.{Idle, InTurn, Decided}
use Rattle.turn_cell.specs.declared.view.View.{View}
use Rattle.turn_cell.specs.History.{entries_of, IsLegal}
use Rattle.turn_cell.specs.Play.{IsSoundView, left, passed}
use Rattle.turn_cell.specs.Rule.{laid, glancing, holding, living, Knows, Sits, Holder, Rule}
use Rattle.turn_cell.proofs.Lists.{in_range, prefix_more}
use Rattle.turn_cell.proofs.Histories.{more_own, more_other}
use Rattle.turn_cell.proofs.Moved.{moved}
use Rattle.turn_cell.proofs.Known.{place, sound}
use Rattle.turn_cell.proofs.Steps.{holder_stays, holder_here, glance_sum, hold_sum, from_first, Next}

one_home : {A : Type 0} (hs : List A) (x : A) → length hs ≡ 1 → set hs 0 x ≡ x ∷ []
one_home [] x e = absurd (omega arith)
one_home (h ∷ []) x e = refl
one_home (h ∷ i ∷ hs) x e = absurd (omega arith)

module _ {O C R : Type 0} (object : Ghosts O C R) (first : O) (id : ℕ) (m : Me (Option O) (View O C R)) (s : State (Option O) (View O C R)) (r : Rule object first s) (at : get_elem? s.views id ≡ some m.0)
    (single : length s.homes ≡ 1) (o : O) (holds : m.1 ≡ (0, Some o) ∷ []) (done : m.0.kept ≡ []) where
  home_again : homes_after s.homes m.1 gives ≡ some (Some o) ∷ []
  home_again = ap (put_back s.homes) holds ∙ one_home s.homes (some (Some o)) single

  module _ (lives : living m.0.stage ≡ 1) (glanced : glancing m.0.stage ≡ 0) (held : holding m.0.stage ≡ 1) (owns : r.owner r.serving ≡ id) (less : r.serving < r.ticket) where
    served_words : set s.words 7 ((slice_index s.words 7 + 1) % 2 ^ 64) ≡ laid r.ticket (r.serving + 1)
    served_words = ap (λ (ws : List ℕ). set ws 7 ((slice_index ws 7 + 1) % 2 ^ 64)) r.words ∙ ap (λ (n : ℕ). laid r.ticket n) (let small : r.serving + 1 < 2 ^ 64 = omega (arith, r.room, less) in mod-eq_of_lt small)

    -- the seat w leaves, with the history log
    leaves : (log : List (Entry C R)) (w : View O C R) → living w.stage ≡ 1 → (glancing w.stage ≡ 0) × (holding w.stage ≡ 0) → (w.made ≡ m.0.made) × (w.out ≡ m.0.out) × (w.met ≡ m.0.met) → IsLegal object first log → length log ≡ min (r.serving + 1) (2 ^ 62)
        → All (λ (entry : Entry C R). entry.seat < length s.views) log → IsPrefix r.log log → ((j : ℕ) → j ≢ id → entries_of j log ≡ entries_of j r.log) → Sits object first log r.owner r.ticket (r.serving + 1) id w
        → ((k : ℕ) (x : List (Entry C R)) → k ≢ id → entries_of k r.log ≡ x → (entries_of k m.0.seen ≡ x) ⊎ (entries_of k m.0.kept ≡ x) → (entries_of k w.seen ≡ x) ⊎ (entries_of k w.kept ≡ x))
        → Holder (set s.views id w) log → object.stands first log o → Rule object first (stepped s 7 ((slice_index s.words 7 + 1) % 2 ^ 64) id m.1 w gives)
    leaves log w lives' quiet same legal long made grown others sits still whole stands = moved object first s r id m.0 w (set s.words 7 ((slice_index s.words 7 + 1) % 2 ^ 64)) (homes_after s.homes m.1 gives) record {
      at = at;
      lived = lives;
      lives = lives';
      made_same = same.0;
      out_same = same.1;
      met_same = same.2;
      log = log;
      owner = r.owner;
      ticket = r.ticket;
      serving = r.serving + 1;
      words = served_words;
      room = omega (arith, r.room, glanced, quiet.0, glance_sum s id m.0 w at);
      held = omega (arith, r.held, held, quiet.1, hold_sum s id m.0 w at);
      legal = legal;
      long = long;
      made = made;
      grown = grown;
      others = others;
      later = omega arith;
      tickets = λ n j other is low high. let apart : n ≢ r.serving = λ e. other (sym is ∙ (ap r.owner e ∙ owns)) in (is, omega (arith, low, apart));
      turn = λ j other is. absurd (other (sym is ∙ owns));
      sits = sits;
      still = still;
      whole = whole;
      home = inl record { now = o; there = home_again; stands = stands };
    }

  module _ (q : ℕ) (e : Entry C R) (decides : m.0.stage ≡ Decided q e) (stands : object.stands first (m.0.seen ++ e ∷ []) o) where
    here : Sits object first r.log r.owner r.ticket r.serving id m.0
    here = place object first s r id m.0 at (ap living decides)

    knows : (r.owner q ≡ id) × (q ≡ r.serving) × (q < r.ticket) × (m.0.seen ≡ r.log) × (q < 2 ^ 62) × (e.seat ≡ id) × IsLegal object first (r.log ++ e ∷ [])
    knows = subst (Knows object first r.log r.owner r.ticket r.serving id m.0.seen) decides here.knows

    abbrev Left : View O C R
    Left = record m.0 { seen = m.0.seen ++ e ∷ []; mine = m.0.mine ++ e ∷ []; stage = Idle }

    left_sits : Sits object first (r.log ++ e ∷ []) r.owner r.ticket (r.serving + 1) id Left
    left_sits = record {
      first_is = here.first_is;
      number_is = here.number_is;
      root_is = here.root_is;
      plain = here.plain;
      has_seen = ([], append-nil (m.0.seen ++ e ∷ []) ∙ ap (λ (l : List (Entry C R)). l ++ e ∷ []) knows.3);
      has_kept = prefix_more m.0.kept r.log (e ∷ []) here.has_kept;
      own = more_own id r.log e knows.5 ∙ ap (λ (l : List (Entry C R)). l ++ e ∷ []) here.own;
      own_seen = more_own id m.0.seen e knows.5 ∙ ap (λ (l : List (Entry C R)). l ++ e ∷ []) here.own_seen;
      count = here.count;
      rests = λ _. refl;
      knows = tt;
    }

    apart : (k : ℕ) → k ≢ id → e.seat ≢ k
    apart k other is = other (sym is ∙ knows.5)

    left_rule : Rule object first (stepped s 7 ((slice_index s.words 7 + 1) % 2 ^ 64) id m.1 Left gives)
    left_rule = leaves (ap living decides) (ap glancing decides) (ap holding decides) (ap r.owner (sym knows.1) ∙ knows.0) (omega (arith, knows.1, knows.2)) (r.log ++ e ∷ []) Left refl (refl, refl) (refl, refl, refl) knows.6
        (omega (arith, length-append r.log (e ∷ []), r.long, knows.1, knows.4)) (All-push (λ (entry : Entry C R). entry.seat < length s.views) r.log e r.made (omega (arith, knows.5, in_range s.views id m.0 at)))
        (e ∷ [], refl) (λ j other. more_other j r.log e (apart j other)) left_sits
        (λ k x other all h. ⊎_elim (λ (p : entries_of k m.0.seen ≡ x). inl (more_other k m.0.seen e (apart k other) ∙ p)) (λ (p : entries_of k m.0.kept ≡ x). inr p) h)
        (holder_here s id m.0 Left at (r.log ++ e ∷ []) refl (ap (λ (l : List (Entry C R)). l ++ e ∷ []) knows.3)) (subst (λ (l : List (Entry C R)). object.stands first (l ++ e ∷ []) o) knows.3 stands)

    pub leave_next : Next object first s id m 7 (λ n. (n + 1) % 2 ^ 64) (left object m)
    leave_next = (
      Left,
      gives,
      tt,
      left_rule,
      λ n f is. let both : Decided q e ≡ Decided n f = sym decides ∙ is in let same : e ≡ f = cc in (
        ap (λ (z : Entry C R). (record m.0 { seen = m.0.seen ++ z ∷ []; mine = m.0.mine ++ z ∷ []; stage = Idle }, carried_after m.1 gives)) same,
        λ g g-is. from_first object first (λ (z : O). IsSoundView object z Left) m.0 here.first_is
            (sound object first (stepped s 7 ((slice_index s.words 7 + 1) % 2 ^ 64) id m.1 Left gives) left_rule id Left (set_here s.views id Left (in_range s.views id m.0 at)) refl done) g g-is,
      ),
    )

  module _ (q : ℕ) (serves : m.0.stage ≡ InTurn q) (late : 2 ^ 62 ≤ q) (stands : object.stands first m.0.seen o) where
    past : Sits object first r.log r.owner r.ticket r.serving id m.0
    past = place object first s r id m.0 at (ap living serves)

    turn : (r.owner q ≡ id) × (q ≡ r.serving) × (q < r.ticket) × (m.0.seen ≡ r.log)
    turn = subst (Knows object first r.log r.owner r.ticket r.serving id m.0.seen) serves past.knows

    abbrev Past : View O C R
    Past = record m.0 { count = Some q; stage = Idle }

    past_sits : Sits object first r.log r.owner r.ticket (r.serving + 1) id Past
    past_sits = record {
      first_is = past.first_is;
      number_is = past.number_is;
      root_is = past.root_is;
      plain = past.plain;
      has_seen = past.has_seen;
      has_kept = past.has_kept;
      own = past.own;
      own_seen = past.own_seen;
      count = λ k e. let same : q ≡ k = cc in (omega arith, omega (arith, turn.2));
      rests = λ _. refl;
      knows = tt;
    }

    past_rule : Rule object first (stepped s 7 ((slice_index s.words 7 + 1) % 2 ^ 64) id m.1 Past gives)
    past_rule = leaves (ap living serves) (ap glancing serves) (ap holding serves) (ap r.owner (sym turn.1) ∙ turn.0) (omega (arith, turn.1, turn.2)) r.log Past refl (refl, refl) (refl, refl, refl) r.legal
        (omega (arith, r.long, turn.1, late)) r.made (prefix_refl r.log) (λ j other. refl) past_sits (λ k x other all h. h)
        (holder_stays s id m.0 Past at r.log refl (λ h. h) r.whole) (subst (λ (l : List (Entry C R)). object.stands first l o) turn.3 stands)

    pub pass_next : Next object first s id m 7 (λ n. (n + 1) % 2 ^ 64) (passed object m)
    pass_next = (
      Past,
      gives,
      tt,
      past_rule,
      λ n is. let both : InTurn q ≡ InTurn n = sym serves ∙ is in let same : q ≡ n = cc in (
        ap (λ (z : ℕ). (record m.0 { count = Some z; stage = Idle }, carried_after m.1 gives)) same,
        λ g g-is. from_first object first (λ (z : O). IsSoundView object z Past) m.0 past.first_is
            (sound object first (stepped s 7 ((slice_index s.words 7 + 1) % 2 ^ 64) id m.1 Past gives) past_rule id Past (set_here s.views id Past (in_range s.views id m.0 at)) refl done) g g-is,
      ),
    )

module _ {O C R : Type 0} (object : Ghosts O C R) (first : O) where
  pub leaves_turn : (slots id : ℕ) (m : Me (Option O) (View O C R)) (q : ℕ) (e : Entry C R) (o : O) → slots ≡ 1 → m.0.stage ≡ Decided q e → m.1 ≡ (0, Some o) ∷ [] → m.0.kept ≡ [] → object.stands first (m.0.seen ++ e ∷ []) o
      → Allows (Rule object first) slots id m 7 (λ n. (n + 1) % 2 ^ 64) (left object m)
  leaves_turn slots id m q e o one decides holds done stands s r wide at _ = leave_next object first id m s r at (wide ∙ one) o holds done q e decides stands

  pub passes_turn : (slots id : ℕ) (m : Me (Option O) (View O C R)) (q : ℕ) (o : O) → slots ≡ 1 → m.0.stage ≡ InTurn q → 2 ^ 62 ≤ q → m.1 ≡ (0, Some o) ∷ [] → m.0.kept ≡ [] → object.stands first m.0.seen o
      → Allows (Rule object first) slots id m 7 (λ n. (n + 1) % 2 ^ 64) (passed object m)
  passes_turn slots id m q o one serves late holds done stands s r wide at _ = pass_next object first id m s r at (wide ∙ one) o holds done q serves late stands
