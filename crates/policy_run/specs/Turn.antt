-- One turn of a call: an attempt is let through, made, and reported.
use Rattle.std.specs.Prelude.{◌≡◌, ℕ, Bool, true, false, List, [], ◌∷◌, ◌++◌, Result, Ok, Err}
use Rattle.breaker_core.specs.declared.command.BreakerCmd.{BreakerCmd}
use Rattle.breaker_core.specs.declared.command.BreakerCmd.TheVariants.{Admit, Report}
use Rattle.breaker_core.specs.declared.command.BreakerReply.{BreakerReply}
use Rattle.breaker_core.specs.declared.command.BreakerReply.TheVariants.{Admitted, Opened, TooMany, Counted, Stale}
use Rattle.breaker_core.specs.Course.{Step}
use Rattle.breaker_core.specs.Fits.{Fits}
use Rattle.turn_cell.specs.declared.error.Exhausted.{Exhausted}
use Rattle.policy_run.specs.declared.operation.Attempt.{Attempt}
use Rattle.policy_run.specs.declared.operation.Attempt.TheVariants.{Good, Bad, NoMemory}
use Rattle.policy_run.specs.declared.outcome.Refusal.{Refusal}
use Rattle.policy_run.specs.declared.outcome.Refusal.TheVariants as refusal
use Rattle.policy_run.specs.declared.turn.Admission.{Admission}
use Rattle.policy_run.specs.declared.turn.Admission.TheVariants as admission
use Rattle.policy_run.specs.Event.{Event, guarded, moment}

-- the step answers this reply to this command, which is one that fits it
pub record Answers (step : Step) (asked : BreakerCmd) (answer : BreakerReply) : Type 0 where
  pub cmd : step.cmd ≡ asked
  pub reply : step.reply ≡ answer
  pub fits : Fits asked answer

-- the attempt did not fail
abbrev pub is_good : {G B : Type 0} → Attempt G B → Bool
is_good (Good answer) = true
is_good (Bad answer) = false
is_good NoMemory = true

-- what an answer to an admission means
abbrev pub IsAdmittedBy : BreakerReply → Admission → Type 0
IsAdmittedBy (Admitted generation half) a = a ≡ admission.LetThrough generation
IsAdmittedBy (Opened until) a = a ≡ admission.Refused (refusal.Opened until)
IsAdmittedBy (TooMany out) a = a ≡ admission.Refused (refusal.TooMany out)
IsAdmittedBy Counted a = ⊥
IsAdmittedBy (Stale current) a = ⊥

abbrev pub reply_of : Refusal → BreakerReply
reply_of (refusal.Opened until) = Opened until
reply_of (refusal.TooMany out) = TooMany out

-- the breaker is asked to let an attempt through, at the moment that was read just before, and answers so
pub record Asks {E : Type 0} (answer : BreakerReply) (events : List (Event E)) : Type 0 where
  pub now : ℕ
  pub step : Step
  pub answers : Answers step (Admit now) answer
  pub whole : events ≡ moment now ∷ guarded step ∷ []

-- the breaker is told how an attempt of this generation ended, at the moment that was read just before, and answers as it may
pub record Reports {E : Type 0} (generation : ℕ) (good : Bool) (events : List (Event E)) : Type 0 where
  pub now : ℕ
  pub step : Step
  pub reply : BreakerReply
  pub answers : Answers step (Report generation now good) reply
  pub whole : events ≡ moment now ∷ guarded step ∷ []

module _ {E : Type 0} where
  -- with a breaker the attempt is let through, and belongs to this generation; without one nothing is asked
  abbrev pub LetsThrough : Bool → ℕ → List (Event E) → Type 0
  LetsThrough false generation events = events ≡ []
  LetsThrough true generation events = (half : Bool) × Asks (Admitted generation half) events

  -- with a breaker the attempt's end is reported; without one nothing is told
  abbrev pub IsReported : Bool → ℕ → Bool → List (Event E) → Type 0
  IsReported false generation good events = events ≡ []
  IsReported true generation good events = Reports generation good events

  -- what the breaker is asked before an attempt, and what comes of it: the attempt is let through or refused, or the breaker's cell is exhausted
  abbrev pub IsAdmission : Bool → Admission → List (Event E) → Type 0
  IsAdmission there (admission.LetThrough generation) events = LetsThrough there generation events
  IsAdmission there (admission.Refused refusal) events = (there ≡ true) × Asks (reply_of refusal) events
  IsAdmission there (admission.Exhausted count) events = (there ≡ true) × ((now : ℕ) × (events ≡ moment now ∷ []))

  -- the same of the report after an attempt
  abbrev pub IsReport : Bool → ℕ → Bool → Result (Unit {0}) Exhausted → List (Event E) → Type 0
  IsReport there generation good (Ok done) events = IsReported there generation good events
  IsReport there generation good (Err exhausted) events = (there ≡ true) × ((now : ℕ) × (events ≡ moment now ∷ []))

-- a turn whose attempt ended so: let through, made, and reported as good exactly where it did not fail
pub record Turn {E G B : Type 0} (there : Bool) (makes : Attempt G B → List (Event E) → Type 0) (answer : Attempt G B) (events : List (Event E)) : Type 0 where
  pub admission : List (Event E)
  pub attempt : List (Event E)
  pub report : List (Event E)
  pub generation : ℕ
  pub admitted : LetsThrough there generation admission
  pub made : makes answer attempt
  pub reported : IsReported there generation (is_good answer) report
  pub whole : events ≡ (admission ++ attempt) ++ report

-- a turn that ended on an exhausted cell of the breaker, where it was to be asked, or where an attempt was to be reported
pub data CutOff {E G B : Type 0} (makes : Attempt G B → List (Event E) → Type 0) (events : List (Event E)) : Type 0 where
  unasked : (now : ℕ) → events ≡ moment now ∷ [] → CutOff makes events
  unreported : (admission attempt : List (Event E)) (generation : ℕ) (answer : Attempt G B) (now : ℕ) → LetsThrough true generation admission → makes answer attempt
      → events ≡ (admission ++ attempt) ++ moment now ∷ [] → CutOff makes events
