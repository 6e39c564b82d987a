-- The attempts of a call under a policy, turn by turn.
use Rattle.std.specs.Prelude.{◌≡◌, ℕ, Bool, true, false, List, [], ◌∷◌, ◌++◌, Option, Some, None, unwrap_or, is_some}
use Rattle.breaker_core.specs.Course.{Step}
use Rattle.retry_core.specs.declared.policy.Bound.{Bound}
use Rattle.retry_core.specs.declared.policy.RetryPolicy.{RetryPolicy}
use Rattle.retry_core.specs.RetryRun.{Run, run_after}
use Rattle.policy_run.specs.declared.operation.Attempt.{Attempt}
use Rattle.policy_run.specs.declared.operation.Attempt.TheVariants as attempt
use Rattle.policy_run.specs.declared.outcome.Outcome.{Outcome}
use Rattle.policy_run.specs.declared.outcome.Outcome.TheVariants.{Good, Bad, Refused, Exhausted, NoMemory}
use Rattle.policy_run.specs.Event.{Event, word, moment, pause}
use Rattle.policy_run.specs.Effects.{AreNone, Effects, Times}
use Rattle.policy_run.specs.Turn.{Turn, CutOff, Asks, IsReported, is_good, reply_of}
use Rattle.policy_run.specs.declared.turn.Turned.{Turned}
use Rattle.policy_run.specs.declared.turn.Turned.TheVariants.{Failed, Ended}
use Rattle.retry_core.specs.declared.run.Next.TheVariants.{GiveUp, Wait}
use Rattle.retry_core.specs.RetryPolicy.{decided}

-- how many milliseconds an attempt may take; 0 is no limit
abbrev pub limit_of : Bound → ℕ
limit_of bound = unwrap_or bound.timeout_ms 0

-- what a reported attempt makes of the call
abbrev pub turned_by : {G B : Type 0} → Attempt G B → Turned G B
turned_by (attempt.Good good) = Ended (Good good)
turned_by (attempt.Bad bad) = Failed bad
turned_by attempt.NoMemory = Ended NoMemory

-- the rest of a turn after an attempt that answered so: it is reported, or the breaker's cell is exhausted
pub data IsRest {E G B : Type 0} (there : Bool) (generation : ℕ) (answer : Attempt G B) (turned : Turned G B) (report : List (Event E)) : Type 0 where
  reported : IsReported there generation (is_good answer) report → turned ≡ turned_by answer → IsRest there generation answer turned report
  unreported : (count : ℕ) (now : ℕ) → there ≡ true → report ≡ moment now ∷ [] → turned ≡ Ended (Exhausted count) → IsRest there generation answer turned report

module _ {E G B : Type 0} (there : Bool) (makes : Attempt G B → List (Event E) → Type 0) where
  -- one turn, after which a further one may follow, or which ends the call
  abbrev pub TurnsTo : Turned G B → List (Event E) → Type 0
  TurnsTo (Failed bad) events = Turn there makes (attempt.Bad bad) events
  TurnsTo (Ended (Good good)) events = Turn there makes (attempt.Good good) events
  TurnsTo (Ended NoMemory) events = Turn there makes attempt.NoMemory events
  TurnsTo (Ended (Refused refusal)) events = (there ≡ true) × Asks (reply_of refusal) events
  TurnsTo (Ended (Exhausted count)) events = (there ≡ true) × CutOff makes events
  TurnsTo (Ended (Bad bad)) events = ⊥

  -- turns that failed, and after each of which a word was drawn that gave a wait; the words, the latest first
  abbrev pub Tried : Option RetryPolicy → List ℕ → List (Event E) → Type 0
  Tried retry [] events = events ≡ []
  Tried None (w ∷ words) events = ⊥
  Tried (Some policy) (w ∷ words) events = (before turn : List (Event E)) × (bad : B) × (ms : ℕ) × Tried (Some policy) words before
      × Turn there makes (attempt.Bad bad) turn × (decided policy (w ∷ words) ≡ Wait ms) × (events ≡ (before ++ turn) ++ word w ∷ pause ms ∷ [])

  -- the last turn fails, and no further one follows: no policy is bound, or it gives up after one word more
  abbrev pub GivesUp : Option RetryPolicy → List ℕ → B → List (Event E) → Type 0
  GivesUp None words bad events = Turn there makes (attempt.Bad bad) events
  GivesUp (Some policy) words bad events = (turn : List (Event E)) × (w attempts : ℕ) × Turn there makes (attempt.Bad bad) turn × (decided policy (w ∷ words) ≡ GiveUp attempts) × (events ≡ turn ++ word w ∷ [])

  -- how the last turn ends the call, after these words
  abbrev pub Ends : Option RetryPolicy → List ℕ → Outcome G B → List (Event E) → Type 0
  Ends retry words (Bad bad) events = GivesUp retry words bad events
  Ends retry words (Good good) events = TurnsTo (Ended (Good good)) events
  Ends retry words NoMemory events = TurnsTo (Ended NoMemory) events
  Ends retry words (Refused refusal) events = TurnsTo (Ended (Refused refusal)) events
  Ends retry words (Exhausted count) events = TurnsTo (Ended (Exhausted count)) events

-- what a reported turn is as a call's last one
abbrev pub last_outcome : {G B : Type 0} → Turned G B → Outcome G B
last_outcome (Failed bad) = Bad bad
last_outcome (Ended outcome) = outcome

-- after failing attempts with these words a policy decides by one word more: a further attempt after a wait, or none
abbrev pub Decides : {E : Type 0} → RetryPolicy → List ℕ → Bool → Run → List (Event E) → Type 0
Decides policy words true run events = (w ms : ℕ) × (decided policy (w ∷ words) ≡ Wait ms) × (run ≡ run_after policy (w ∷ words)) × (events ≡ word w ∷ pause ms ∷ [])
Decides policy words false run events = (w attempts : ℕ) × (decided policy (w ∷ words) ≡ GiveUp attempts) × (events ≡ word w ∷ [])

-- Turns that failed, and the one that ends the call, under a retry policy or none. `makes` is what an attempt with an answer does
pub record Attempted {E G B : Type 0} (retry : Option RetryPolicy) (there : Bool) (makes : Attempt G B → List (Event E) → Type 0) (outcome : Outcome G B) (events : List (Event E)) : Type 0 where
  pub words : List ℕ
  pub before : List (Event E)
  pub last : List (Event E)
  pub tried : Tried there makes retry words before
  pub ends : Ends there makes retry words outcome last
  pub whole : events ≡ before ++ last

-- A call under what is bound to its target; a breaker guards it exactly where one is bound. `makes` is what an attempt with a limit and an answer does
abbrev pub Attempts : {E G B : Type 0} → Bound → (ℕ → Attempt G B → List (Event E) → Type 0) → Outcome G B → List (Event E) → Type 0
Attempts bound makes outcome events = Attempted bound.retry (is_some bound.breaker) (makes (limit_of bound)) outcome events

-- an attempt was made, and what follows it, which had these effects together
abbrev pub MadeBoth : {E G B : Type 0} → (Attempt G B → List (Event E) → Type 0) → (Attempt G B → List (Event E) → Type 0) → (List E → Type 0) → (List Step → Type 0) → Times → Type 0
MadeBoth {E} {G} {B} makes follows did held clock =
    (made rest : List (Event E)) × (answer : Attempt G B) × makes answer made × follows answer rest × Effects (made ++ rest) did held clock.before clock.after AreNone
