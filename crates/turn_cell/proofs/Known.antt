-- What the rule says of one seat: what it has seen, and what a root that is alone knows.
use Rattle.std.proofs.Common.{◌≡◌, ◌≢◌, ℕ, ◌^◌, ◌<◌, ◌≤◌, true, false, List, [], ◌∷◌, length, All, sum_by, Option, Some, None, IsSome, IfSome, refl, sym, ap, ◌∙◌, subst, ⊎_elim, arith, eq-eqb}
use Rattle.std.proofs.lemmas.Bool.{eqb-true}
use Rattle.std.proofs.lemmas.List.Elements.{All-weaker, All-nil}
use mathlib.Core.Logic.{dite}
use mathlib.Core.Option.{some}
use mathlib.Core.List.{IsPrefix}
use native.Mathlib.Decide.{ℕ_discrete}
use lib.ListN.{get_elem?}
use Rattle.atomic_table.specs.Table.{State}
use Rattle.turn_cell.specs.declared.entry.Entry.{Entry}
use Rattle.turn_cell.specs.declared.object.Object.{Ghosts}
use Rattle.turn_cell.specs.declared.view.Stage.{Stage}
use Rattle.turn_cell.specs.declared.view.Stage.TheVariants.{Idle, Glanced, Waiting, InTurn, Decided, Spent}
use Rattle.turn_cell.specs.declared.view.View.{View}
use Rattle.turn_cell.specs.History.{entries_of}
use Rattle.turn_cell.specs.Play.{IsAloneView, IsSoundView}
use Rattle.turn_cell.specs.Rule.{glancing, holding, working, living, Knows, Sits, IsMet, Rooted, AtHome, AtWork, Rule}
use Rattle.turn_cell.proofs.Lists.{one_place, only_first, none_else, prefix_length, prefix_all}
use Rattle.turn_cell.proofs.Histories.{none_before, legal_before}

module _ {C R : Type 0} where
  pub holding_le_living : (g : Stage C R) → holding g ≤ living g
  holding_le_living Idle = omega arith
  holding_le_living Glanced = omega arith
  holding_le_living (Waiting n) = omega arith
  holding_le_living (InTurn n) = omega arith
  holding_le_living (Decided n e) = omega arith
  holding_le_living Spent = omega arith

  pub glancing_small : (g : Stage C R) → glancing g ≤ 1
  glancing_small Idle = omega arith
  glancing_small Glanced = omega arith
  glancing_small (Waiting n) = omega arith
  glancing_small (InTurn n) = omega arith
  glancing_small (Decided n e) = omega arith
  glancing_small Spent = omega arith

  pub working_lives : (g : Stage C R) → working g ≡ 1 → living g ≡ 1
  working_lives Idle e = absurd (omega arith)
  working_lives Glanced e = absurd (omega arith)
  working_lives (Waiting n) e = refl
  working_lives (InTurn n) e = refl
  working_lives (Decided n x) e = refl
  working_lives Spent e = absurd (omega arith)

module _ {O C R : Type 0} (object : Ghosts O C R) (first : O) (log : List (Entry C R)) (owner : ℕ → ℕ) (ticket serving j : ℕ) (seen : List (Entry C R)) where
  pub working_owns : (g : Stage C R) → working g ≡ 1 → Knows object first log owner ticket serving j seen g → owner serving ≡ j
  working_owns Idle e k = absurd (omega arith)
  working_owns Glanced e k = absurd (omega arith)
  working_owns (Waiting n) e k = absurd (omega arith)
  working_owns (InTurn n) e k = ap owner (sym k.1) ∙ k.0
  working_owns (Decided n x) e k = ap owner (sym k.1) ∙ k.0
  working_owns Spent e k = absurd (omega arith)

if_some : {X : Type 0} (P : X → Type 0) (o : Option X) → ((x : X) → o ≡ Some x → P x) → IfSome o P
if_some P (Some x) h = h x refl
if_some P None h = tt

pub some_count : (o : Option ℕ) → IsSome o → (n : ℕ) × (o ≡ Some n)
some_count (Some n) h = (n, refl)
some_count None h = absurd (cc)

pub only_nothing : {X : Type 0} (a l : List X) → IsPrefix a l → l ≡ [] → a ≡ []
only_nothing [] l h e = refl
only_nothing (x ∷ a) l h e = absurd (omega (arith, prefix_length (x ∷ a) l h, ap length e))

module _ {O C R : Type 0} (object : Ghosts O C R) (first : O) (s : State (Option O) (View O C R)) (r : Rule object first s) (j : ℕ) (v : View O C R) (at : get_elem? s.views j ≡ some v) (lives : living v.stage ≡ 1) where
  pub place : Sits object first r.log r.owner r.ticket r.serving j v
  place = r.each j v at lives

  pub root_place : v.is_root ≡ true → j ≡ 0
  root_place is = eqb-true j 0 (sym place.root_is ∙ is)

  pub root_view : v.is_root ≡ true → r.root ≡ v
  root_view is = one_place s.views 0 r.root v r.root_at (subst (λ (z : ℕ). get_elem? s.views z ≡ some v) (root_place is) at)

  pub root_facts : v.is_root ≡ true → Rooted s.views r.log v
  root_facts is = subst (λ (z : View O C R). Rooted s.views r.log z) (root_view is) r.rooted

  -- a seat that was met has its entries in what the root has seen, once nothing is kept
  pub met_seen : v.kept ≡ [] → (p : ℕ × List (Entry C R)) → IsMet s.views r.log v p → entries_of p.0 v.seen ≡ p.1
  met_seen done p ok = ⊎_elim (λ (e : entries_of p.0 v.seen ≡ p.1). e)
      (λ (e : entries_of p.0 v.kept ≡ p.1). let nothing : [] ≡ p.1 = ap (entries_of p.0) (sym done) ∙ e in none_before p.0 v.seen r.log place.has_seen (ok.all ∙ sym nothing) ∙ nothing) ok.seen

  met_shown : v.kept ≡ [] → All (λ (pair : ℕ × List (Entry C R)). (pair.0 < v.made) × (entries_of pair.0 v.seen ≡ pair.1)) v.met
  met_shown done = dite (ℕ_discrete j 0)
      (λ (e : j ≡ 0). let facts = root_facts (place.root_is ∙ eq-eqb j 0 e) in let made : v.made ≡ length s.views = facts.made in
      All-weaker (IsMet s.views r.log v) (λ (pair : ℕ × List (Entry C R)). (pair.0 < v.made) × (entries_of pair.0 v.seen ≡ pair.1)) (λ p ok. (omega (arith, ok.made, made), met_seen done p ok)) v.met facts.met)
      (λ (other : j ≢ 0). subst (λ (ps : List (ℕ × List (Entry C R))). All (λ (pair : ℕ × List (Entry C R)). (pair.0 < v.made) × (entries_of pair.0 v.seen ≡ pair.1)) ps) (sym (place.plain other).2)
      (All-nil (λ (pair : ℕ × List (Entry C R)). (pair.0 < v.made) × (entries_of pair.0 v.seen ≡ pair.1))))

  -- a seat that is not the root has another place
  cases_apart : v.is_root ≡ false → j ≡ 0 → ⊥
  cases_apart not_root e = let yes' : v.is_root ≡ true = place.root_is ∙ eq-eqb j 0 e in cc

  module _ (alone : IsAloneView v) where
    one_lives : sum_by (λ (u : View O C R). living u.stage) s.views ≡ 1
    one_lives = let out = (root_facts alone.0).out in let none : v.out ≡ 0 = alone.1 in omega (arith, out)

    here : get_elem? s.views 0 ≡ some v
    here = subst (λ (z : ℕ). get_elem? s.views z ≡ some v) (root_place alone.0) at

    -- only its own place has a seat that is not met
    pub alone_place : (i : ℕ) (u : View O C R) → get_elem? s.views i ≡ some u → living u.stage ≡ 1 → u ≡ v
    alone_place i u there alive = let first_place : i ≡ 0 = only_first (λ (z : View O C R). living z.stage) s.views v u i here lives one_lives there alive in
        one_place s.views 0 u v (subst (λ (z : ℕ). get_elem? s.views z ≡ some u) first_place there) here

    -- it has seen all
    pub alone_seen : v.kept ≡ [] → v.seen ≡ r.log
    alone_seen done = let same = alone_place r.whole.j r.whole.v r.whole.at r.whole.lives in
        ⊎_elim (λ (e : r.whole.v.seen ≡ r.log). ap (λ (z : View O C R). z.seen) (sym same) ∙ e)
        (λ (e : r.whole.v.kept ≡ r.log). let nothing : r.log ≡ [] = sym e ∙ ap (λ (z : View O C R). z.kept) same ∙ done in only_nothing v.seen r.log place.has_seen nothing ∙ sym nothing) r.whole.has

    -- between two calls every ticket was served
    pub alone_served : holding v.stage ≡ 0 → r.ticket ≡ r.serving
    alone_served idle = let none : sum_by (λ (z : View O C R). holding z.stage) s.views ≡ 0 = none_else (λ (z : View O C R). holding z.stage) (λ (z : View O C R). living z.stage) (λ z. holding_le_living z.stage) s.views v here lives one_lives idle in
        omega (arith, r.held, none)

    -- the object is at home
    pub alone_home : working v.stage ≡ 0 → AtHome object first s.homes r.log
    alone_home idle = ⊎_elim (λ (h : AtHome object first s.homes r.log). h)
        (λ (a : AtWork s.views). let same = alone_place a.j a.v a.at (working_lives a.v.stage a.works) in let works : working v.stage ≡ 1 = ap (λ (z : View O C R). working z.stage) (sym same) ∙ a.works in absurd (omega arith)) r.home

  pub sound : v.kept ≡ [] → IsSoundView object first v
  sound done table = record {
    legal = legal_before object first v.seen r.log place.has_seen r.legal;
    own = ap (λ (k : ℕ). entries_of k v.seen) place.number_is ∙ place.own_seen;
    met = met_shown done;
    made = λ is. prefix_all (λ (entry : Entry C R). entry.seat < v.made) v.seen r.log place.has_seen (subst (λ (n : ℕ). All (λ (entry : Entry C R). entry.seat < n) r.log) (sym (root_facts is).made) r.made);
    parts = λ is. (root_facts is).parts;
    plain = λ other. place.plain (cases_apart other);
    count = if_some (λ (n : ℕ). 2 ^ 62 ≤ n) v.count (λ n e. (place.count n e).0);
    short = omega (arith, prefix_length v.seen r.log place.has_seen, r.long);
    full = λ alone shows. let n = some_count v.count shows in omega (arith, place.count n.0 n.1, ap length (alone_seen alone done), r.long, alone_served alone (ap holding (place.rests shows)));
  }
