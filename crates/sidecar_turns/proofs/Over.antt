-- Calls under what is bound to them, as what was done over all objects, whatever an attempt does of its own.
use Rattle.std.proofs.Common.{◌≡◌, ◌∙◌, ℕ, List, [], map, refl, sym, ap, subst, flat_map}
use Rattle.std.specs.List.{sum_by}
use Rattle.rand_core.specs.Stream.{next_u64}
use Rattle.side_world.specs.Moments.{Between, Rises, Drawn}
use Rattle.side_world.specs.Told.{Tells}
use Rattle.turn_cell.specs.Growth.{EachGrew}
use Rattle.breaker_core.specs.Course.{Step as BreakerStep}
use Rattle.policy_run.specs.Event.{Event, own_of, step_of}
use Rattle.policy_run.specs.Effects.{Effects}
use Rattle.link_call.specs.LinkAt.{Asks}
use Rattle.sidecar_objects.specs.declared.doing.Doing.{Doing}
use Rattle.sidecar_objects.specs.Kind.{Kind, Kinds, CellsAt, stores, ledgers, breakers, book, turns, ticks, cells_in, seats_in}
use Rattle.sidecar_objects.specs.Doing.{laid, steps_at, asked_in, word_in, moment_in, pause_in, tick_in}
use Rattle.sidecar_objects.specs.Did.{Did, Standing}
use Rattle.sidecar_objects.proofs.Laid.{all_here, none_elsewhere, laid_own, laid_steps, laid_words, laid_moments, laid_pauses, laid_ticks}

-- an attempt is a step of an object, or a call of the link
pub record IsSilent {E : Type 0} (does : E → Doing) : Type 0 where
  pub words : (e : E) → word_in (does e) ≡ []
  pub moments : (e : E) → moment_in (does e) ≡ []
  pub pauses : (e : E) → pause_in (does e) ≡ []
  pub ticks : (e : E) → tick_in (does e) ≡ []
  pub breakers : (k : ℕ) (e : E) → steps_at breakers k (does e) ≡ []

module _ {E : Type 0} (does : E → Doing) (silent : IsSilent does) (j : ℕ) (events : List (Event E)) where
  abbrev pub done : List Doing
  done = map (laid does j) events

  -- what attempts do of their own, of each kind
  pub stored_by : (k : ℕ) → flat_map (steps_at stores k) done ≡ flat_map (λ e. steps_at stores k (does e)) (flat_map own_of events)
  stored_by k = laid_own does j (steps_at stores k) (λ w. refl) (λ m. refl) (λ ms. refl) (λ s. refl) events

  pub entered_by : (k : ℕ) → flat_map (steps_at ledgers k) done ≡ flat_map (λ e. steps_at ledgers k (does e)) (flat_map own_of events)
  entered_by k = laid_own does j (steps_at ledgers k) (λ w. refl) (λ m. refl) (λ ms. refl) (λ s. refl) events

  pub noted_by : (k : ℕ) → flat_map (steps_at book k) done ≡ flat_map (λ e. steps_at book k (does e)) (flat_map own_of events)
  noted_by k = laid_own does j (steps_at book k) (λ w. refl) (λ m. refl) (λ ms. refl) (λ s. refl) events

  pub joined_by : (k : ℕ) → flat_map (steps_at turns k) done ≡ flat_map (λ e. steps_at turns k (does e)) (flat_map own_of events)
  joined_by k = laid_own does j (steps_at turns k) (λ w. refl) (λ m. refl) (λ ms. refl) (λ s. refl) events

  pub ticked_by : (k : ℕ) → flat_map (steps_at ticks k) done ≡ flat_map (λ e. steps_at ticks k (does e)) (flat_map own_of events)
  ticked_by k = laid_own does j (steps_at ticks k) (λ w. refl) (λ m. refl) (λ ms. refl) (λ s. refl) events

  pub asked_by : flat_map asked_in done ≡ flat_map (λ e. asked_in (does e)) (flat_map own_of events)
  asked_by = laid_own does j asked_in (λ w. refl) (λ m. refl) (λ ms. refl) (λ s. refl) events

  -- the steps of the breaker that is bound
  pub broke_here : flat_map (steps_at breakers j) done ≡ flat_map step_of events
  broke_here = laid_steps does j (steps_at breakers j) (λ w. refl) (λ m. refl) (λ ms. refl) (silent.breakers j) events ∙ all_here j (flat_map step_of events)

  pub broke_elsewhere : (k : ℕ) → (k ≡ j → ⊥) → flat_map (steps_at breakers k) done ≡ []
  broke_elsewhere k far = laid_steps does j (steps_at breakers k) (λ w. refl) (λ m. refl) (λ ms. refl) (silent.breakers k) events ∙ none_elsewhere j k far (flat_map step_of events)

  -- no breaker was asked
  pub broke_nowhere : (k : ℕ) → flat_map step_of events ≡ [] → flat_map (steps_at breakers k) done ≡ []
  broke_nowhere k none-asked = laid_steps does j (steps_at breakers k) (λ w. refl) (λ m. refl) (λ ms. refl) (silent.breakers k) events ∙ ap (flat_map _) none-asked

  -- the effects of a call are what was done, where the seats of each kind grew so and the link was asked so
  pub did_laid : {O : Type 0} (kinds : Kinds O) (cells : CellsAt O) (at after : Standing O) (did : List E → Type 0) (held : List BreakerStep → Type 0)
      → Effects events did held at.clock after.clock (λ ws. Drawn next_u64 at.words ws after.words)
      → ((kind : Kind) → EachGrew (kinds kind) (cells_in cells kind) (seats_in at.seats kind) (λ k. flat_map (steps_at kind k) done) (seats_in after.seats kind))
      → Asks at.link (flat_map asked_in done) after.link → Did kinds cells at done after
  did_laid kinds cells at after did held e grew asks = record {
    grew = grew;
    times = subst (λ l. Between at.clock.last l after.clock.last) (sym (laid_moments does j silent.moments events)) e.times;
    pauses = subst (λ l. Rises at.clock.paused (sum_by (λ (n : ℕ). n) l) after.clock.paused) (sym (laid_pauses does j silent.pauses events)) e.pauses;
    ticks = subst (λ l. Tells at.clock.ticks after.clock.ticks l) (sym (laid_ticks does j silent.ticks events)) e.ticks;
    asked = asks;
    words = subst (λ l. Drawn next_u64 at.words l after.words) (sym (laid_words does j silent.words events)) e.words;
  }
