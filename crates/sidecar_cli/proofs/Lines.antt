-- The line of each broker stands at its place.
use Rattle.std.specs.Prelude.{◌≡◌, ◌<◌, ◌≤◌, ◌+◌, ℕ, zero, suc, ◌==◌, Bool, true, false, List, [], ◌∷◌, ◌++◌, length, Option, Result, Decides, if◌then◌else◌, refl}
use Rattle.std.specs.List.{flat_map}
use Rattle.std.proofs.Common.{◌∙◌, ap, sym, subst, arith}
use Rattle.std.proofs.lemmas.Bool.Decides.{Decides-eqb}
use Rattle.std.proofs.lemmas.List.{append-nil}
use mathlib.Core.Option.{some}
use lib.ListN.{get_elem?}
use Rattle.turn_cell.specs.declared.error.Exhausted.{Exhausted}
use Rattle.turn_cell.specs.Growth.{EachGrew}
use Rattle.turn_cell.proofs.Growing.{each_none, each_on}
use Rattle.ledger_core.specs.declared.reply.LedgerReply.{LedgerReply}
use Rattle.ledger_core.specs.Message.{Step}
use Rattle.resource_spec.specs.Component.{Loaded}
use Rattle.sidecar_objects.specs.declared.doing.Doing.{Doing}
use Rattle.sidecar_turns.specs.Counting.{Counted}
use Rattle.sidecar_turns.specs.Counting as counting
use Rattle.sidecar_objects.specs.Kind.{CellsAt, Kinds, SeatsAt, ledgers}
use Rattle.sidecar_objects.specs.Doing.{steps_at}
use Rattle.sidecar_turns.specs.Brokers.{brokers_of}
use Rattle.sidecar_cli.specs.Counting.{AreCountedOf, line_told, none, more}
use Rattle.sidecar_cli.specs.Lines.{HasCounted, HaveOwnLines, counted, exhausted}
use Rattle.sidecar_cli.proofs.Countings.{silent, still, unasked}

-- ---- one broker

same_place : (i : ℕ) → (i == i) ≡ true
same_place i = (Decides-eqb i i).1 refl

other_place : (i k : ℕ) → (i ≡ k → ⊥) → (i == k) ≡ false
other_place i k far = by (i == k) (Decides-eqb i k) where
  by : (b : Bool) → Decides b (i ≡ k) → b ≡ false
  by true test = absurd (far (test.0 refl))
  by false test = refl

-- what was done for one broker: the ledger at its place made the step that counts, and the others none
record OneCounted (place : ℕ) (events : List Doing) (result : Result LedgerReply Exhausted) : Type 0 where
  pub here : HasCounted (flat_map (steps_at ledgers place) events) result
  pub elsewhere : (k : ℕ) → (place ≡ k → ⊥) → flat_map (steps_at ledgers k) events ≡ []

one_counted : (place : ℕ) (events : List Doing) (result : Result LedgerReply Exhausted) → Counted place events result → OneCounted place events result
one_counted place events result (counting.stepped step cmd did is) = record {
  here = counted step cmd (ap (flat_map (steps_at ledgers place)) did ∙ ap (λ (b : Bool). (if b then step ∷ [] else []) ++ []) (same_place place)) is;
  elsewhere = λ k far. ap (flat_map (steps_at ledgers k)) did ∙ ap (λ (b : Bool). (if b then step ∷ [] else []) ++ []) (other_place place k far);
}
one_counted place events result (counting.exhausted e did is) = record { here = exhausted e (ap (flat_map (steps_at ledgers place)) did) is; elsewhere = λ k far. ap (flat_map (steps_at ledgers k)) did }

-- ---- brokers from a place on

-- the broker at this place of a list, whose ledger stands at `at`
record OwnAt (brokers : List Loaded) (texts : List (List ℕ)) (made : ℕ → List Step) (k at : ℕ) : Type 0 where
  pub broker : Loaded
  pub stands : get_elem? brokers k ≡ some broker
  pub result : Result LedgerReply Exhausted
  pub counts : HasCounted (made at) result
  pub line : get_elem? texts k ≡ some (line_told broker.name result)

record OwnFrom {O : Type 0} (kinds : Kinds O) (cells : CellsAt O) (place : ℕ) (brokers : List Loaded) (seats seats' : SeatsAt O) (texts : List (List ℕ)) : Type 0 where
  pub made : ℕ → List Step
  pub grew : EachGrew (kinds ledgers) cells.ledgers seats.ledgers made seats'.ledgers
  pub wide : length texts ≡ length brokers
  pub own : (k at : ℕ) → k < length brokers → at ≡ place + k → OwnAt brokers texts made k at
  pub before : (k : ℕ) → k < place → made k ≡ []
  pub behind : (k : ℕ) → place + length brokers ≤ k → made k ≡ []

module _ {O : Type 0} (kinds : Kinds O) (cells : CellsAt O) where
  module _ (place : ℕ) (c : Loaded) (cs : List Loaded) (seats between seats' : SeatsAt O) (text : List ℕ) (texts : List (List ℕ)) (result : Result LedgerReply Exhausted) (events : List Doing) (one : OneCounted place events result) (text_is : text ≡ line_told c.name result)
      (grew : EachGrew (kinds ledgers) cells.ledgers seats.ledgers (λ k. flat_map (steps_at ledgers k) events) between.ledgers) (rest : OwnFrom kinds cells (suc place) cs between seats' texts) where
    abbrev all_made : ℕ → List Step
    all_made k = flat_map (steps_at ledgers k) events ++ rest.made k

    first_made : (at : ℕ) → at ≡ place → all_made at ≡ flat_map (steps_at ledgers place) events
    first_made at same = ap all_made same ∙ (ap (λ (l : List Step). flat_map (steps_at ledgers place) events ++ l) (rest.before place (omega arith)) ∙ append-nil (flat_map (steps_at ledgers place) events))

    later_made : (at : ℕ) → (place ≡ at → ⊥) → all_made at ≡ rest.made at
    later_made at far = ap (λ (l : List Step). l ++ rest.made at) (one.elsewhere at far)

    own_at : (k at : ℕ) → k < suc (length cs) → at ≡ place + k → OwnAt (c ∷ cs) (text ∷ texts) all_made k at
    own_at zero at low is = record {
      broker = c;
      stands = refl;
      result = result;
      counts = subst (λ (l : List Step). HasCounted l result) (sym (first_made at (omega (arith, is)))) one.here;
      line = ap some text_is;
    }
    own_at (suc k) at low is =
        let o = rest.own k at (omega (arith, low)) (omega (arith, is)) in
        record {
          broker = o.broker;
          stands = o.stands;
          result = o.result;
          counts = subst (λ (l : List Step). HasCounted l o.result) (sym (later_made at (λ (same : place ≡ at). omega (arith, same, is)))) o.counts;
          line = o.line;
        }

    own_more : OwnFrom kinds cells place (c ∷ cs) seats seats' (text ∷ texts)
    own_more = let wide = rest.wide in record {
      made = all_made;
      grew = each_on (kinds ledgers) cells.ledgers seats.ledgers (λ k. flat_map (steps_at ledgers k) events) between.ledgers rest.made seats'.ledgers grew rest.grew;
      wide = omega (arith, wide);
      own = own_at;
      before = λ k low. later_made k (λ (same : place ≡ k). omega (arith, same, low)) ∙ rest.before k (omega (arith, low));
      behind = λ k high. later_made k (λ (same : place ≡ k). omega (arith, same, high)) ∙ rest.behind k (omega (arith, high));
    }

  own_from : (place : ℕ) (cs : List Loaded) (seats seats' : SeatsAt O) (texts : List (List ℕ)) (spent : Option ℕ) → AreCountedOf kinds cells place cs seats texts spent seats' → OwnFrom kinds cells place cs seats seats' texts
  own_from _ _ _ _ _ _ (none place seats) = record {
    made = λ k. [];
    grew = each_none (kinds ledgers) cells.ledgers seats.ledgers (λ k. []) (λ k. refl);
    wide = refl;
    own = λ k at low is. absurd (omega (arith, low));
    before = λ k low. refl;
    behind = λ k high. refl;
  }
  own_from _ _ _ _ _ _ (more place c cs seats between seats' text texts spent later one rest) =
      let d = one.does still unasked silent in
      own_more place c cs seats between seats' text texts one.result d.events (one_counted place d.events one.result d.held) one.text_is (d.went.grew ledgers) (own_from (suc place) cs between seats' texts later rest)

  -- each broker has its own line
  pub own_lines : (components : List Loaded) (seats seats' : SeatsAt O) (texts : List (List ℕ)) (spent : Option ℕ) → AreCountedOf kinds cells 0 (brokers_of components) seats texts spent seats' → HaveOwnLines kinds cells components seats seats' texts
  own_lines components seats seats' texts spent all =
      let o = own_from 0 (brokers_of components) seats seats' texts spent all in
      record {
        made = o.made;
        grew = o.grew;
        wide = o.wide;
        own = λ k low. let at = o.own k k low (omega arith) in record { broker = at.broker; stands = at.stands; result = at.result; counted = at.counts; line = at.line };
        others = λ k high. o.behind k (omega (arith, high));
      }
