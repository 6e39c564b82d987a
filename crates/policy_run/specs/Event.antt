-- What a call under a policy does, as a list of events in their order.
use Rattle.std.specs.Prelude.{ℕ, List, [], ◌∷◌}
use Rattle.side_world.specs.declared.clock.Tick.{Tick}
use Rattle.side_world.specs.declared.clock.Tick.TheVariants as tick
use Rattle.breaker_core.specs.Course.{Step}

-- An event: what an attempt does of its own, of which nothing is known here; a step of the breaker; a random word that was drawn; a moment that
-- was read, in milliseconds since 1970; and a pause of so many milliseconds
pub data Event (E : Type 0) : Type 0 where
  own : E → Event E
  guarded : Step → Event E
  word : ℕ → Event E
  moment : ℕ → Event E
  pause : ℕ → Event E

module _ {E : Type 0} where
  -- an event as what it is of each kind: the one thing, or nothing
  abbrev pub own_of : Event E → List E
  own_of (own e) = e ∷ []
  own_of (guarded step) = []
  own_of (word w) = []
  own_of (moment m) = []
  own_of (pause ms) = []

  abbrev pub step_of : Event E → List Step
  step_of (own e) = []
  step_of (guarded step) = step ∷ []
  step_of (word w) = []
  step_of (moment m) = []
  step_of (pause ms) = []

  abbrev pub word_of : Event E → List ℕ
  word_of (own e) = []
  word_of (guarded step) = []
  word_of (word w) = w ∷ []
  word_of (moment m) = []
  word_of (pause ms) = []

  abbrev pub moment_in : Event E → List ℕ
  moment_in (own e) = []
  moment_in (guarded step) = []
  moment_in (word w) = []
  moment_in (moment m) = m ∷ []
  moment_in (pause ms) = []

  abbrev pub pause_of : Event E → List ℕ
  pause_of (own e) = []
  pause_of (guarded step) = []
  pause_of (word w) = []
  pause_of (moment m) = []
  pause_of (pause ms) = ms ∷ []

  -- the calls of the clock
  abbrev pub tick_of : Event E → List Tick
  tick_of (own e) = []
  tick_of (guarded step) = []
  tick_of (word w) = []
  tick_of (moment m) = tick.Read m ∷ []
  tick_of (pause ms) = tick.Paused ms ∷ []
