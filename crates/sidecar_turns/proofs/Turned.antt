-- Turns of a kind, one after the other.
use Rattle.std.proofs.Common.{◌≡◌, ◌≤◌, ◌+◌, ℕ, suc, List, [], ◌++◌, sym, subst, arith, append-nil, append_assoc}
use Rattle.sidecar_objects.specs.declared.doing.Doing.{Doing}
use Rattle.sidecar_objects.specs.Kind.{Kinds, CellsAt}
use Rattle.sidecar_objects.specs.Did.{Does, Standing}
use Rattle.sidecar_objects.specs.Composed.{did_nothing, did_on}
use Rattle.sidecar_turns.specs.declared.draining.Drained.{Drained}
use Rattle.sidecar_turns.specs.declared.draining.Drained.TheVariants as drained
use Rattle.sidecar_turns.specs.Repeating.{Last, OneMore, Repeats, Turns, ended, used_up, went_on}

module _ {T : Type 0} (turns : List Doing → T → Type 0) (follows : T → List Doing → Type 0) (stops : T → Drained → Type 0) where
  -- so many turns were taken, and further ones follow: whatever comes of these comes behind them
  abbrev pub Taken : ℕ → List Doing → Type 0
  Taken count events = (left : ℕ) (more : List Doing) (how : Drained) → Turns turns follows stops left more how → Turns turns follows stops (count + left) (events ++ more) how

  none_yet : Taken 0 []
  none_yet left more how rest = subst (λ n. Turns turns follows stops n more how) (omega arith) rest

  one_more : (count : ℕ) (before next : List Doing) → Taken count before → OneMore turns follows next → Taken (count + 1) (before ++ next)
  one_more count before next taken more left rest how turned =
      let all = taken (suc left) (next ++ rest) how (went_on left next rest how more turned) in
      let same : count + suc left ≡ (count + 1) + left = omega arith in
      subst (λ (z : ℕ × List Doing). Turns turns follows stops z.0 z.1 how) (λ i. (same i, sym (append_assoc before next rest) i)) all

  at_last : (count : ℕ) (before last : List Doing) (how : Drained) → Taken count before → Last turns stops last how → Turns turns follows stops (count + 1) (before ++ last) how
  at_last count before last how taken is = taken 1 last how (ended last how is)

  all_used : (count : ℕ) (events : List Doing) → Taken count events → Turns turns follows stops count events drained.UsedUp
  all_used count events taken =
      let all = taken 0 [] drained.UsedUp used_up in
      let same : count + 0 ≡ count = omega arith in
      subst (λ (z : ℕ × List Doing). Turns turns follows stops z.0 z.1 drained.UsedUp) (λ i. (same i, append-nil events i)) all

  module _ {O : Type 0} (kinds : Kinds O) (cells : CellsAt O) (at : Standing O) where
    pub none_taken : Does kinds cells at at (Taken 0)
    none_taken = record { events = []; held = none_yet; went = did_nothing kinds cells at }

    module _ (between after : Standing O) (count : ℕ) (so-far : Does kinds cells at between (Taken count)) where
      pub one_taken : Does kinds cells between after (OneMore turns follows) → Does kinds cells at after (Taken (count + 1))
      one_taken turned = record {
        events = so-far.events ++ turned.events;
        held = one_more count so-far.events turned.events so-far.held turned.held;
        went = did_on kinds cells at so-far.events between turned.events after so-far.went turned.went;
      }

      pub last_taken : (how : Drained) → ((turn : T) → stops turn how → how ≡ drained.UsedUp → ⊥) → count + 1 ≤ 4096 → Does kinds cells between after (λ events. Last turns stops events how) → Does kinds cells at after (λ events. Repeats turns follows stops events how)
      last_taken how unspent few turned = record {
        events = so-far.events ++ turned.events;
        held = record {
          taken = count + 1;
          turned = at_last count so-far.events turned.events how so-far.held turned.held;
          few = few;
          all = λ e. absurd (unspent turned.held.turn turned.held.stops_so e);
        };
        went = did_on kinds cells at so-far.events between turned.events after so-far.went turned.went;
      }

    pub all_taken : (between : Standing O) (count : ℕ) → count ≡ 4096 → Does kinds cells at between (Taken count) → Does kinds cells at between (λ events. Repeats turns follows stops events drained.UsedUp)
    all_taken between count all so-far = record {
      events = so-far.events;
      held = record { taken = count; turned = all_used count so-far.events so-far.held; few = omega (arith, all); all = λ e. all };
      went = so-far.went;
    }
