-- The rule after a step of one seat.
use Rattle.std.proofs.Common.{◌≡◌, ◌≢◌, ◌⊎◌, ℕ, ◌+◌, ◌^◌, ◌<◌, ◌≤◌, min, List, [], ◌∷◌, ◌++◌, length, set, All, sum_by, Option, sym, ap, ◌∙◌, subst, ⊎_elim, arith, length-set}
use Rattle.std.proofs.lemmas.List.Elements.{All-weaker}
use mathlib.Core.Logic.{dite}
use mathlib.Core.Option.{some, some-ne-none}
use mathlib.Core.Option as maybe
use mathlib.Core.List.{IsPrefix}
use native.Mathlib.Decide.{ℕ_discrete}
use base.Growing.{prefix_trans}
use lib.ListN.{get_elem?}
use Rattle.atomic_table.specs.Table.{State}
use Rattle.atomic_table.proofs.Lists.{at_set, set_here, set_else}
use Rattle.turn_cell.specs.declared.entry.Entry.{Entry}
use Rattle.turn_cell.specs.declared.object.Object.{Ghosts}
use Rattle.turn_cell.specs.declared.view.Stage.{Stage}
use Rattle.turn_cell.specs.declared.view.Stage.TheVariants.{Idle, Glanced, Waiting, InTurn, Decided, Spent}
use Rattle.turn_cell.specs.declared.view.View.{View}
use Rattle.turn_cell.specs.History.{entries_of, IsLegal}
use Rattle.turn_cell.specs.Rule.{laid, glancing, holding, living, Knows, Sits, IsSpentAt, IsMet, Rooted, Holder, AtHome, AtWork, Rule}
use Rattle.turn_cell.proofs.Lists.{in_range, one_place, sum_set}

module _ {O C R : Type 0} (object : Ghosts O C R) (first : O) where
  abbrev pub Knower : Type 0
  Knower = View O C R

  abbrev pub Stand : Type 0
  Stand = State (Option O) (View O C R)

  abbrev pub Homes : Type 0
  Homes = List (maybe.Option (Option O))

  -- one step of the seat `me`, whose view goes from v to w
  pub record Move (s : State (Option O) (View O C R)) (r : Rule object first s) (me : ℕ) (v w : View O C R) (words' : List ℕ) (homes' : List (maybe.Option (Option O))) : Type 0 where
    pub at : get_elem? s.views me ≡ some v
    pub lived : living v.stage ≡ 1
    pub lives : living w.stage ≡ 1
    pub made_same : w.made ≡ v.made
    pub out_same : w.out ≡ v.out
    pub met_same : w.met ≡ v.met
    pub log : List (Entry C R)
    pub owner : ℕ → ℕ
    pub ticket : ℕ
    pub serving : ℕ
    pub words : words' ≡ laid ticket serving
    pub room : ticket + sum_by (λ u. glancing u.stage) (set s.views me w) ≤ 2 ^ 62 + 65536
    pub held : ticket ≡ serving + sum_by (λ u. holding u.stage) (set s.views me w)
    pub legal : IsLegal object first log
    pub long : length log ≡ min serving (2 ^ 62)
    pub made : All (λ entry. entry.seat < length s.views) log
    pub grown : IsPrefix r.log log
    pub others : (j : ℕ) → j ≢ me → entries_of j log ≡ entries_of j r.log
    pub later : r.ticket ≤ ticket
    pub tickets : (n j : ℕ) → j ≢ me → r.owner n ≡ j → r.serving ≤ n → n < r.ticket → (owner n ≡ j) × (serving ≤ n)
    pub turn : (j : ℕ) → j ≢ me → r.owner r.serving ≡ j → (serving ≡ r.serving) × (log ≡ r.log)
    pub sits : Sits object first log owner ticket serving me w
    pub still : (k : ℕ) (x : List (Entry C R)) → k ≢ me → entries_of k r.log ≡ x → (entries_of k v.seen ≡ x) ⊎ (entries_of k v.kept ≡ x) → (entries_of k w.seen ≡ x) ⊎ (entries_of k w.kept ≡ x)
    pub whole : Holder (set s.views me w) log
    pub home : AtHome object first homes' log ⊎ AtWork (set s.views me w)

  module _ (s : State (Option O) (View O C R)) (r : Rule object first s) (me : ℕ) (v w : View O C R) (words' : List ℕ) (homes' : List (maybe.Option (Option O))) (m : Move s r me v w words' homes') where
    other_knows : (j : ℕ) (u : View O C R) → j ≢ me → (g : Stage C R) → Knows object first r.log r.owner r.ticket r.serving j u.seen g → Knows object first m.log m.owner m.ticket m.serving j u.seen g
    other_knows j u other Idle k = tt
    other_knows j u other Glanced k = tt
    other_knows j u other (Waiting n) k = let t = m.tickets n j other k.0 k.1 k.2 in (t.0, t.1, omega (arith, k.2, m.later))
    other_knows j u other (InTurn n) k = let same = m.turn j other (ap r.owner (sym k.1) ∙ k.0) in let n-is : n ≡ r.serving = k.1 in
        ((m.tickets n j other k.0 (omega arith) k.2).0, k.1 ∙ sym same.0, omega (arith, k.2, m.later), k.3 ∙ sym same.1)
    other_knows j u other (Decided n e) k = let same = m.turn j other (ap r.owner (sym k.1) ∙ k.0) in let n-is : n ≡ r.serving = k.1 in
        ((m.tickets n j other k.0 (omega arith) k.2).0, k.1 ∙ sym same.0, omega (arith, k.2, m.later), k.3 ∙ sym same.1, k.4, k.5, subst (λ (l : List (Entry C R)). IsLegal object first (l ++ e ∷ [])) (sym same.1) k.6)
    other_knows j u other Spent k = tt

    other_sits : (j : ℕ) (u : View O C R) → j ≢ me → Sits object first r.log r.owner r.ticket r.serving j u → Sits object first m.log m.owner m.ticket m.serving j u
    other_sits j u other st = record {
      first_is = st.first_is;
      number_is = st.number_is;
      root_is = st.root_is;
      plain = st.plain;
      has_seen = prefix_trans u.seen r.log m.log st.has_seen m.grown;
      has_kept = prefix_trans u.kept r.log m.log st.has_kept m.grown;
      own = m.others j other ∙ st.own;
      own_seen = st.own_seen;
      count = λ n e. let c = st.count n e in (c.0, omega (arith, c.1, m.later));
      rests = st.rests;
      knows = other_knows j u other u.stage st.knows;
    }

    each_sits : (j : ℕ) (u : View O C R) → get_elem? (set s.views me w) j ≡ some u → living u.stage ≡ 1 → Sits object first m.log m.owner m.ticket m.serving j u
    each_sits j u at lives = ⊎_elim (λ (t : (j ≡ me) × (w ≡ u)). subst (λ (z : ℕ × View O C R). Sits object first m.log m.owner m.ticket m.serving z.0 z.1) (λ i. (sym t.0 i, t.1 i)) m.sits)
        (λ (t : (j ≢ me) × (get_elem? s.views j ≡ some u)). other_sits j u t.0 (r.each j u t.1 lives)) (at_set s.views me j w u at)

    -- a seat that was met is not the one that steps
    gone_apart : (k : ℕ) → IsSpentAt s.views k → k ≢ me
    gone_apart k gone e = let dead : living v.stage ≡ 0 = gone v (subst (λ (z : ℕ). get_elem? s.views z ≡ some v) (sym e) m.at) in let alive : living v.stage ≡ 1 = m.lived in omega arith

    still_gone : (k : ℕ) → IsSpentAt s.views k → IsSpentAt (set s.views me w) k
    still_gone k gone u at = ⊎_elim (λ (t : (k ≡ me) × (w ≡ u)). absurd (gone_apart k gone t.0)) (λ (t : (k ≢ me) × (get_elem? s.views k ≡ some u)). gone u t.1) (at_set s.views me k w u at)

    met_still : (root : View O C R) → ((k : ℕ) (x : List (Entry C R)) → k ≢ me → entries_of k r.log ≡ x → (entries_of k v.seen ≡ x) ⊎ (entries_of k v.kept ≡ x) → (entries_of k root.seen ≡ x) ⊎ (entries_of k root.kept ≡ x))
        → (p : ℕ × List (Entry C R)) → IsMet s.views r.log v p → IsMet (set s.views me w) m.log root p
    met_still root still p ok = let apart = gone_apart p.0 ok.gone in record {
      made = omega (arith, ok.made, length-set s.views me w);
      gone = still_gone p.0 ok.gone;
      all = m.others p.0 apart ∙ ok.all;
      seen = still p.0 p.1 apart ok.all ok.seen;
    }

    met_else : (root : View O C R) (p : ℕ × List (Entry C R)) → IsMet s.views r.log root p → IsMet (set s.views me w) m.log root p
    met_else root p ok = record {
      made = omega (arith, ok.made, length-set s.views me w);
      gone = still_gone p.0 ok.gone;
      all = m.others p.0 (gone_apart p.0 ok.gone) ∙ ok.all;
      seen = ok.seen;
    }

    living_same : sum_by (λ u. living u.stage) (set s.views me w) ≡ sum_by (λ u. living u.stage) s.views
    living_same = let alive : living v.stage ≡ 1 = m.lived in let alive' : living w.stage ≡ 1 = m.lives in omega (arith, sum_set (λ (u : View O C R). living u.stage) s.views me v w m.at)

    abbrev Root : Type 0
    Root = (root : View O C R) × (get_elem? (set s.views me w) 0 ≡ some root) × Rooted (set s.views me w) m.log root

    root_steps : me ≡ 0 → Root
    root_steps e = let was : r.root ≡ v = one_place s.views 0 r.root v r.root_at (subst (λ (z : ℕ). get_elem? s.views z ≡ some v) e m.at) in
        let old : Rooted s.views r.log v = subst (λ (z : View O C R). Rooted s.views r.log z) was r.rooted in (
          w,
          subst (λ (z : ℕ). get_elem? (set s.views me w) z ≡ some w) e (set_here s.views me w (in_range s.views me v m.at)),
          record {
            lives = m.lives;
            made = m.made_same ∙ old.made ∙ sym (length-set s.views me w);
            out = ap (λ (z : ℕ). z + 1) m.out_same ∙ old.out ∙ sym living_same;
            parts = omega (arith, old.parts, m.made_same, m.out_same, ap length m.met_same);
            met = subst (λ (ps : List (ℕ × List (Entry C R))). All (IsMet (set s.views me w) m.log w) ps) (sym m.met_same) (All-weaker (IsMet s.views r.log v) (IsMet (set s.views me w) m.log w) (met_still w m.still) v.met old.met);
          },
        )

    root_stays : me ≢ 0 → Root
    root_stays other = (
      r.root,
      set_else s.views me 0 w (λ e. other (sym e)) ∙ r.root_at,
      record {
        lives = r.rooted.lives;
        made = r.rooted.made ∙ sym (length-set s.views me w);
        out = r.rooted.out ∙ sym living_same;
        parts = r.rooted.parts;
        met = All-weaker (IsMet s.views r.log r.root) (IsMet (set s.views me w) m.log r.root) (met_else r.root) r.root.met r.rooted.met;
      },
    )

    pub moved : Rule object first record { words = words'; homes = homes'; views = set s.views me w }
    moved = let root = dite (ℕ_discrete me 0) root_steps root_stays in record {
      log = m.log;
      owner = m.owner;
      ticket = m.ticket;
      serving = m.serving;
      words = m.words;
      few = omega (arith, length-set s.views me w, r.few);
      room = m.room;
      held = m.held;
      legal = m.legal;
      long = m.long;
      made = subst (λ (n : ℕ). All (λ (entry : Entry C R). entry.seat < n) m.log) (sym (length-set s.views me w)) m.made;
      each = each_sits;
      root = root.0;
      root_at = root.1;
      rooted = root.2;
      whole = m.whole;
      home = m.home;
    }
