-- What the events of a call did: to the operation, to its guard, to the clock, and to the random words.
use Rattle.std.specs.Prelude.{◌≡◌, ◌≤◌, ℕ, List, [], ◌∷◌, flat_map, Option}
use Rattle.std.specs.List.{sum_by}
use Rattle.rand_core.specs.Stream.{Stream, next_u64}
use Rattle.breaker_core.specs.Course.{Step}
use Rattle.side_world.specs.declared.clock.Clock.{Ghosts}
use Rattle.side_world.specs.declared.clock.Tick.{Tick}
use Rattle.side_world.specs.declared.clock.Tick.TheVariants as tick
use Rattle.side_world.specs.Told.{Tells}
use Rattle.side_world.specs.Moments.{Between, Drawn, Rises}
use Rattle.policy_run.specs.Event.{Event, own_of, step_of, word_of, moment_in, pause_of, tick_of}

-- what a clock shows: the moment that it last told, and the sum of its pauses, both in milliseconds; and its calls, where it tells them
pub record Clocked : Type 0 where
  pub last : ℕ
  pub paused : ℕ
  pub ticks : Option (List Tick)

abbrev pub clocked : {C : Type 0} → Ghosts C → C → Clocked
clocked clock c = record { last = clock.last c; paused = clock.paused c; ticks = clock.ticks c }

-- the clock was read once, and told `now`
pub record ReadsNow (clock : Clocked) (now : ℕ) (clock' : Clocked) : Type 0 where
  pub later : clock.last ≤ clock'.last
  pub last : now ≡ clock'.last
  pub paused : clock'.paused ≡ clock.paused
  pub ticks : Tells clock.ticks clock'.ticks (tick.Read now ∷ [])

-- Each kind of event in order is what was done there: `did` to the operation, `held` to the guard, `drawn` to the random words. Moments don't fall, and
-- lie between what the clock told last before and after; its pauses are those of the events, whose sum stops at 2^64 - 1; readings and pauses were
-- made in the order of the events
pub record Effects {E : Type 0} (events : List (Event E)) (did : List E → Type 0) (held : List Step → Type 0) (clock clock' : Clocked) (drawn : List ℕ → Type 0) : Type 0 where
  pub owned : did (flat_map own_of events)
  pub guards : held (flat_map step_of events)
  pub times : Between clock.last (flat_map moment_in events) clock'.last
  pub pauses : Rises clock.paused (sum_by (λ (ms : ℕ). ms) (flat_map pause_of events)) clock'.paused
  pub ticks : Tells clock.ticks clock'.ticks (flat_map tick_of events)
  pub words : drawn (flat_map word_of events)

-- what a clock shows before and after
pub record Times : Type 0 where
  pub before : Clocked
  pub after : Clocked

abbrev pub times : {C : Type 0} → Ghosts C → C → C → Times
times clock c c' = record { before = clocked clock c; after = clocked clock c' }

-- things of a kind, in order, lead from one state to another
abbrev pub Runs : {S X : Type 0} → (S → List X → S → Type 0) → S → S → List X → Type 0
Runs leads s s' xs = leads s xs s'

-- none do
abbrev pub AreNone : {X : Type 0} → List X → Type 0
AreNone xs = xs ≡ []

-- the random words are the next ones
abbrev pub Draws : {R : Type 0} → (R → Stream) → R → R → List ℕ → Type 0
Draws stream rng rng' words = Drawn next_u64 (stream rng) words (stream rng')

-- there are events of which this holds, and which had these effects
abbrev pub Made : {E : Type 0} → (List (Event E) → Type 0) → (List E → Type 0) → (List Step → Type 0) → Times → (List ℕ → Type 0) → Type 0
Made {E} is did held clock drawn = (events : List (Event E)) × is events × Effects events did held clock.before clock.after drawn
