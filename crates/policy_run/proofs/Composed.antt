-- The effects of events, put together from part to part.
use Rattle.std.proofs.Common.{◌≡◌, ℕ, List, [], ◌++◌, flat_map, sym, ap, subst, ◌∙◌, append-nil, arith}
use Rattle.std.specs.List.{sum_by}
use Rattle.std.proofs.lemmas.Grind.{flat_map-append}
use Rattle.std.proofs.lemmas.List.Sums.{sum_by-append}
use Rattle.breaker_core.specs.Course.{Step}
use Rattle.side_world.specs.Moments.{Between, Rises}
use Rattle.side_world.specs.Told.{Tells}
use Rattle.side_world.proofs.Composed.{between_on, rises_on, rises_nothing, tells_on, tells_nothing}
use Rattle.policy_run.specs.Event.{Event, own_of, step_of, word_of, moment_in, pause_of, tick_of}
use Rattle.policy_run.specs.Effects.{Clocked, Effects}

module _ {E : Type 0} where
  -- one part after another
  pub effects_on : (first second : List (Event E)) (did did-then did-all : List E → Type 0) (held held-then held-all : List Step → Type 0) (clock between clock' : Clocked) (drawn drawn-then drawn-all : List ℕ → Type 0)
      → ((xs ys : List E) → did xs → did-then ys → did-all (xs ++ ys)) → ((xs ys : List Step) → held xs → held-then ys → held-all (xs ++ ys)) → ((xs ys : List ℕ) → drawn xs → drawn-then ys → drawn-all (xs ++ ys))
      → Effects first did held clock between drawn → Effects second did-then held-then between clock' drawn-then → Effects (first ++ second) did-all held-all clock clock' drawn-all
  effects_on first second did did-then did-all held held-then held-all clock between clock' drawn drawn-then drawn-all did-on held-on drawn-on e e' = record {
    owned = subst did-all (sym (flat_map-append own_of first second)) (did-on _ _ e.owned e'.owned);
    guards = subst held-all (sym (flat_map-append step_of first second)) (held-on _ _ e.guards e'.guards);
    times = subst (λ ms. Between clock.last ms clock'.last) (sym (flat_map-append moment_in first second)) (between_on clock.last (flat_map moment_in first) between.last (flat_map moment_in second) clock'.last e.times e'.times);
    pauses = subst (λ ms. Rises clock.paused (sum_by (λ (n : ℕ). n) ms) clock'.paused) (sym (flat_map-append pause_of first second))
        (subst (λ n. Rises clock.paused n clock'.paused) (sym (sum_by-append (λ (n : ℕ). n) (flat_map pause_of first) (flat_map pause_of second)))
        (rises_on clock.paused (sum_by (λ (n : ℕ). n) (flat_map pause_of first)) between.paused (sum_by (λ (n : ℕ). n) (flat_map pause_of second)) clock'.paused e.pauses e'.pauses));
    ticks = subst (λ ts. Tells clock.ticks clock'.ticks ts) (sym (flat_map-append tick_of first second)) (tells_on clock.ticks between.ticks clock'.ticks (flat_map tick_of first) (flat_map tick_of second) e.ticks e'.ticks);
    words = subst drawn-all (sym (flat_map-append word_of first second)) (drawn-on _ _ e.words e'.words);
  }

-- nothing beside something is that
module _ {X : Type 0} (did : List X → Type 0) where
  pub nothing_before : (xs ys : List X) → xs ≡ [] → did ys → did (xs ++ ys)
  nothing_before xs ys none-first h = subst (λ l. did (l ++ ys)) (sym none-first) h

  pub nothing_after : (xs ys : List X) → did xs → ys ≡ [] → did (xs ++ ys)
  nothing_after xs ys h none-then = subst (λ l. did (xs ++ l)) (sym none-then) (subst did (sym (append-nil xs)) h)

pub nothing_at_all : {X : Type 0} (xs ys : List X) → xs ≡ [] → ys ≡ [] → xs ++ ys ≡ []
nothing_at_all xs ys none-first none-then = ap (λ l. l ++ ys) none-first ∙ none-then

-- nothing was done
pub no_effects : {E : Type 0} (did : List E → Type 0) (held : List Step → Type 0) (clock : Clocked) (drawn : List ℕ → Type 0) → did [] → held [] → drawn [] → Effects [] did held clock clock drawn
no_effects did held clock drawn none-done none-held none-drawn = record { owned = none-done; guards = none-held; times = omega arith; pauses = rises_nothing clock.paused; ticks = tells_nothing clock.ticks; words = none-drawn }
