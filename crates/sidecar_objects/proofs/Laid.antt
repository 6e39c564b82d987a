-- The events of a call under a policy, as those of the objects, kind by kind.
use Rattle.std.proofs.Common.{◌≡◌, ℕ, ◌==◌, Bool, true, false, List, [], ◌∷◌, ◌++◌, map, refl, sym, ap, if◌then◌else◌, flat_map}
use Rattle.std.specs.Prelude.{Decides}
use Rattle.std.proofs.lemmas.Bool.Decides.{Decides-eqb}
use Rattle.side_world.specs.declared.clock.Tick.TheVariants as tick
use Rattle.breaker_core.specs.Course.{Step as BreakerStep}
use Rattle.policy_run.specs.Event.{Event, own, guarded, word, moment, pause, own_of, step_of, word_of, pause_of, tick_of}
use Rattle.policy_run.specs.Event.{moment_in as moment_of}
use Rattle.sidecar_objects.specs.declared.doing.Doing.{Doing}
use Rattle.sidecar_objects.specs.declared.doing.Doing.TheVariants.{Stepped, Drew, Timed, Waited}
use Rattle.sidecar_objects.specs.declared.doing.SlotStep.TheVariants.{Breaker}
use Rattle.sidecar_objects.specs.Doing.{one_at, laid, word_in, moment_in, pause_in, tick_in}

-- ---- one thing at its place, and elsewhere

same_place : (i k : ℕ) → i ≡ k → (i == k) ≡ true
same_place i k e = (Decides-eqb i k).1 e

other_place : (i k : ℕ) → (i ≡ k → ⊥) → (i == k) ≡ false
other_place i k far = by (i == k) (Decides-eqb i k) where
  by : (b : Bool) → Decides b (i ≡ k) → b ≡ false
  by true test = absurd (far (test.0 refl))
  by false test = refl

module _ {X : Type 0} (i : ℕ) where
  pub here_at : (x : X) → one_at i i x ≡ x ∷ []
  here_at x = ap (λ b. if b then x ∷ [] else []) (same_place i i refl)

  pub elsewhere_at : (k : ℕ) → (k ≡ i → ⊥) → (x : X) → one_at k i x ≡ []
  elsewhere_at k far x = ap (λ b. if b then x ∷ [] else []) (other_place i k (λ e. far (sym e)))

  -- all of them
  pub all_here : (xs : List X) → flat_map (one_at i i) xs ≡ xs
  all_here [] = refl
  all_here (x ∷ xs) = (λ c. here_at x c ++ all_here xs c)

  pub none_elsewhere : (k : ℕ) → (k ≡ i → ⊥) → (xs : List X) → flat_map (one_at k i) xs ≡ []
  none_elsewhere k far [] = refl
  none_elsewhere k far (x ∷ xs) = (λ c. elsewhere_at k far x c ++ none_elsewhere k far xs c)

pub none_of_each : {X Y : Type 0} (f : X → List Y) → ((x : X) → f x ≡ []) → (xs : List X) → flat_map f xs ≡ []
none_of_each f none-there [] = refl
none_of_each f none-there (x ∷ xs) = (λ c. none-there x c ++ none_of_each f none-there xs c)

-- ---- the events of a call

module _ {E : Type 0} (does : E → Doing) (j : ℕ) where
  module _ {X : Type 0} (f : Doing → List X) (drew : (w : ℕ) → f (Drew w) ≡ []) (timed : (m : ℕ) → f (Timed m) ≡ []) (waited : (ms : ℕ) → f (Waited ms) ≡ []) where
    -- what its attempts do of their own, where no breaker's step is of that kind
    pub laid_own : ((step : BreakerStep) → f (Stepped (Breaker j step)) ≡ []) → (events : List (Event E)) → flat_map f (map (laid does j) events) ≡ flat_map (λ e. f (does e)) (flat_map own_of events)
    laid_own guard [] = refl
    laid_own guard (own e ∷ events) = ap (λ l. f (does e) ++ l) (laid_own guard events)
    laid_own guard (guarded step ∷ events) = (λ c. guard step c ++ laid_own guard events c)
    laid_own guard (word w ∷ events) = (λ c. drew w c ++ laid_own guard events c)
    laid_own guard (moment m ∷ events) = (λ c. timed m c ++ laid_own guard events c)
    laid_own guard (pause ms ∷ events) = (λ c. waited ms c ++ laid_own guard events c)

    -- the steps of its breaker, where its attempts make none of that kind
    pub laid_steps : ((e : E) → f (does e) ≡ []) → (events : List (Event E)) → flat_map f (map (laid does j) events) ≡ flat_map (λ step. f (Stepped (Breaker j step))) (flat_map step_of events)
    laid_steps owned [] = refl
    laid_steps owned (own e ∷ events) = (λ c. owned e c ++ laid_steps owned events c)
    laid_steps owned (guarded step ∷ events) = ap (λ l. f (Stepped (Breaker j step)) ++ l) (laid_steps owned events)
    laid_steps owned (word w ∷ events) = (λ c. drew w c ++ laid_steps owned events c)
    laid_steps owned (moment m ∷ events) = (λ c. timed m c ++ laid_steps owned events c)
    laid_steps owned (pause ms ∷ events) = (λ c. waited ms c ++ laid_steps owned events c)

  -- what is of no object
  pub laid_words : ((e : E) → word_in (does e) ≡ []) → (events : List (Event E)) → flat_map word_in (map (laid does j) events) ≡ flat_map word_of events
  laid_words owned [] = refl
  laid_words owned (own e ∷ events) = (λ c. owned e c ++ laid_words owned events c)
  laid_words owned (guarded step ∷ events) = laid_words owned events
  laid_words owned (word w ∷ events) = ap (λ l. w ∷ l) (laid_words owned events)
  laid_words owned (moment m ∷ events) = laid_words owned events
  laid_words owned (pause ms ∷ events) = laid_words owned events

  pub laid_moments : ((e : E) → moment_in (does e) ≡ []) → (events : List (Event E)) → flat_map moment_in (map (laid does j) events) ≡ flat_map moment_of events
  laid_moments owned [] = refl
  laid_moments owned (own e ∷ events) = (λ c. owned e c ++ laid_moments owned events c)
  laid_moments owned (guarded step ∷ events) = laid_moments owned events
  laid_moments owned (word w ∷ events) = laid_moments owned events
  laid_moments owned (moment m ∷ events) = ap (λ l. m ∷ l) (laid_moments owned events)
  laid_moments owned (pause ms ∷ events) = laid_moments owned events

  pub laid_pauses : ((e : E) → pause_in (does e) ≡ []) → (events : List (Event E)) → flat_map pause_in (map (laid does j) events) ≡ flat_map pause_of events
  laid_pauses owned [] = refl
  laid_pauses owned (own e ∷ events) = (λ c. owned e c ++ laid_pauses owned events c)
  laid_pauses owned (guarded step ∷ events) = laid_pauses owned events
  laid_pauses owned (word w ∷ events) = laid_pauses owned events
  laid_pauses owned (moment m ∷ events) = laid_pauses owned events
  laid_pauses owned (pause ms ∷ events) = ap (λ l. ms ∷ l) (laid_pauses owned events)

  pub laid_ticks : ((e : E) → tick_in (does e) ≡ []) → (events : List (Event E)) → flat_map tick_in (map (laid does j) events) ≡ flat_map tick_of events
  laid_ticks owned [] = refl
  laid_ticks owned (own e ∷ events) = (λ c. owned e c ++ laid_ticks owned events c)
  laid_ticks owned (guarded step ∷ events) = laid_ticks owned events
  laid_ticks owned (word w ∷ events) = laid_ticks owned events
  laid_ticks owned (moment m ∷ events) = ap (λ l. tick.Read m ∷ l) (laid_ticks owned events)
  laid_ticks owned (pause ms ∷ events) = ap (λ l. tick.Paused ms ∷ l) (laid_ticks owned events)
