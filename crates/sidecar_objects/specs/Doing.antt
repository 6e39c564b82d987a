-- What is done for a request, as a list of events in their order: what each is of each kind.
use Rattle.std.specs.Prelude.{ℕ, ◌==◌, List, [], ◌∷◌, if◌then◌else◌}
use Rattle.side_world.specs.declared.clock.Tick.{Tick}
use Rattle.side_world.specs.declared.clock.Tick.TheVariants as tick
use Rattle.side_world.specs.declared.link.LinkCall.{LinkCall}
use Rattle.state_core.specs.History.{Step as StoreStep}
use Rattle.policy_run.specs.Event.{Event}
use Rattle.policy_run.specs.Event as event
use Rattle.sidecar_objects.specs.declared.doing.Doing.{Doing}
use Rattle.sidecar_objects.specs.declared.doing.Doing.TheVariants.{Stepped, Asked, Drew, Timed, Waited}
use Rattle.sidecar_objects.specs.declared.doing.SlotStep.{SlotStep}
use Rattle.sidecar_objects.specs.declared.doing.SlotStep.TheVariants.{Store, Ledger, Breaker, Book, Turns, Ticks}
use Rattle.sidecar_objects.specs.Kind.{Kind, StepOf, stores, ledgers, breakers, book, turns, ticks}

-- one thing, where it is at the place k
abbrev pub one_at : {X : Type 0} → ℕ → ℕ → X → List X
one_at k i x = if i == k then x ∷ [] else []

-- ---- an event as what it is of each kind: the one thing, or nothing

-- a step as one of the object of this kind at the place k
abbrev pub step_at : (kind : Kind) → ℕ → SlotStep → List (StepOf kind)
step_at stores k (Store i step) = one_at k i step
step_at ledgers k (Ledger i step) = one_at k i step
step_at breakers k (Breaker i step) = one_at k i step
step_at book k (Book step) = one_at k 0 step
step_at turns k (Turns step) = one_at k 0 step
step_at ticks k (Ticks step) = one_at k 0 step
step_at _ k _ = []

-- the steps of the object of this kind at the place k
abbrev pub steps_at : (kind : Kind) → ℕ → Doing → List (StepOf kind)
steps_at kind k (Stepped step) = step_at kind k step
steps_at kind k (Asked call) = []
steps_at kind k (Drew w) = []
steps_at kind k (Timed m) = []
steps_at kind k (Waited ms) = []

abbrev pub asked_in : Doing → List LinkCall
asked_in (Stepped step) = []
asked_in (Asked call) = call ∷ []
asked_in (Drew w) = []
asked_in (Timed m) = []
asked_in (Waited ms) = []

abbrev pub word_in : Doing → List ℕ
word_in (Stepped step) = []
word_in (Asked call) = []
word_in (Drew w) = w ∷ []
word_in (Timed m) = []
word_in (Waited ms) = []

abbrev pub moment_in : Doing → List ℕ
moment_in (Stepped step) = []
moment_in (Asked call) = []
moment_in (Drew w) = []
moment_in (Timed m) = m ∷ []
moment_in (Waited ms) = []

abbrev pub pause_in : Doing → List ℕ
pause_in (Stepped step) = []
pause_in (Asked call) = []
pause_in (Drew w) = []
pause_in (Timed m) = []
pause_in (Waited ms) = ms ∷ []

abbrev pub tick_in : Doing → List Tick
tick_in (Stepped step) = []
tick_in (Asked call) = []
tick_in (Drew w) = []
tick_in (Timed m) = tick.Read m ∷ []
tick_in (Waited ms) = tick.Paused ms ∷ []

-- ---- calls under a policy

-- what a call under a policy does, where this is what an attempt does of its own, and its breaker is the one at j
abbrev pub laid : {E : Type 0} → (E → Doing) → ℕ → Event E → Doing
laid does j (event.own e) = does e
laid does j (event.guarded step) = Stepped (Breaker j step)
laid does j (event.word w) = Drew w
laid does j (event.moment m) = Timed m
laid does j (event.pause ms) = Waited ms

-- the same where its attempts are steps of the store at i
abbrev pub placed : ℕ → ℕ → Event StoreStep → Doing
placed i j = laid (λ step. Stepped (Store i step)) j
