-- One turn, put together from its parts.
use Rattle.std.proofs.Common.{◌≡◌, ℕ, Bool, true, List, [], ◌++◌, Ok, Err, refl, sym, ap, subst, append_assoc}
use Rattle.breaker_core.specs.Course.{Step}
use Rattle.turn_cell.specs.declared.error.Exhausted.{Exhausted}
use Rattle.policy_run.specs.declared.turn.Admission.TheVariants as admission
use Rattle.policy_run.specs.Effects.{Clocked, Effects}
use Rattle.policy_run.specs.Turn.{IsAdmission, IsReport}
use Rattle.policy_run.proofs.Composed.{effects_on, nothing_before, nothing_after, nothing_at_all}
use Rattle.policy_run.specs.declared.operation.Attempt.{Attempt}
use Rattle.policy_run.specs.declared.operation.Attempt.TheVariants as attempt
use Rattle.policy_run.specs.declared.outcome.Outcome.TheVariants as outcome
use Rattle.policy_run.specs.declared.turn.Turned.{Turned}
use Rattle.policy_run.specs.declared.turn.Turned.TheVariants.{Failed, Ended}
use Rattle.policy_run.specs.Event.{Event}
use Rattle.policy_run.specs.Turn.{LetsThrough, IsReported, Turn, CutOff, unasked, unreported, is_good}
use Rattle.policy_run.specs.Attempts.{IsRest, TurnsTo, turned_by}
use Rattle.policy_run.specs.Attempts as rest

module _ {E G B : Type 0} (there : Bool) (makes : Attempt G B → List (Event E) → Type 0) (generation : ℕ) (admission made report : List (Event E)) (admits : LetsThrough there generation admission) where
  whole_turn : (answer : Attempt G B) → makes answer made → IsReported there generation (is_good answer) report → TurnsTo there makes (turned_by answer) ((admission ++ made) ++ report)
  whole_turn (attempt.Good good) did told = record { admission = admission; attempt = made; report = report; generation = generation; admitted = admits; made = did; reported = told; whole = refl }
  whole_turn (attempt.Bad bad) did told = record { admission = admission; attempt = made; report = report; generation = generation; admitted = admits; made = did; reported = told; whole = refl }
  whole_turn attempt.NoMemory did told = record { admission = admission; attempt = made; report = report; generation = generation; admitted = admits; made = did; reported = told; whole = refl }

  pub turned : (answer : Attempt G B) (ending : Turned G B) → makes answer made → IsRest there generation answer ending report → TurnsTo there makes ending ((admission ++ made) ++ report)
  turned answer ending did (rest.reported told is) = subst (λ z. TurnsTo there makes z ((admission ++ made) ++ report)) (sym is) (whole_turn answer did told)
  turned answer ending did (rest.unreported count now is-there report-is is) =
      subst (λ z. TurnsTo there makes z ((admission ++ made) ++ report)) (sym is) (is-there, unreported admission made generation answer now (subst (λ z. LetsThrough z generation admission) is-there admits) did (ap (λ z. (admission ++ made) ++ z) report-is))

module _ {E G B : Type 0} (there : Bool) (makes : Attempt G B → List (Event E) → Type 0) (generation : ℕ) (answer : Attempt G B) (did : List E → Type 0) (held : List Step → Type 0) (clock between clock' : Clocked)
    (attempted : (events : List (Event E)) × makes answer events × Effects events did (λ xs. xs ≡ []) clock between (λ xs. xs ≡ [])) where
  with_report : (report : List (Event E)) → Effects report (λ xs. xs ≡ []) held between clock' (λ xs. xs ≡ []) → Effects (attempted.0 ++ report) did held clock clock' (λ xs. xs ≡ [])
  with_report report e = effects_on attempted.0 report did (λ xs. xs ≡ []) did (λ xs. xs ≡ []) held held clock between clock' (λ xs. xs ≡ []) (λ xs. xs ≡ []) (λ xs. xs ≡ []) (nothing_after did) (nothing_before held) nothing_at_all attempted.2 e

  -- an attempt, and its report
  pub told : (good : Bool) (done : Unit {0}) (ending : Turned G B) → good ≡ is_good answer → ((events : List (Event E)) × IsReport there generation good (Ok done) events × Effects events (λ xs. xs ≡ []) held between clock' (λ xs. xs ≡ [])) → ending ≡ turned_by answer
      → (made report : List (Event E)) × (answer' : Attempt G B) × makes answer' made × IsRest there generation answer' ending report × Effects (made ++ report) did held clock clock' (λ xs. xs ≡ [])
  told good done ending good-is reported is = (attempted.0, reported.0, answer, attempted.1, rest.reported (subst (λ z. IsReported there generation z reported.0) good-is reported.1) is, with_report reported.0 reported.2)

  -- an attempt, and then an exhausted cell
  pub untold : (good : Bool) (exhausted : Exhausted) → ((events : List (Event E)) × IsReport there generation good (Err exhausted) events × Effects events (λ xs. xs ≡ []) held between clock' (λ xs. xs ≡ []))
      → (made report : List (Event E)) × (answer' : Attempt G B) × makes answer' made × IsRest there generation answer' (Ended (outcome.Exhausted exhausted.count)) report × Effects (made ++ report) did held clock clock' (λ xs. xs ≡ [])
  untold good exhausted reported = (attempted.0, reported.0, answer, attempted.1, rest.unreported exhausted.count reported.1.1.0 reported.1.0 reported.1.1.1 refl, with_report reported.0 reported.2)

-- a turn whose attempt was let through
module _ {E G B : Type 0} (there : Bool) (makes : Attempt G B → List (Event E) → Type 0) (did : List E → Type 0) (held held-then held-all : List Step → Type 0) (clock between clock' : Clocked) (held-on : (xs ys : List Step) → held xs → held-then ys → held-all (xs ++ ys)) where
  pub let_through : (there' : Bool) (generation : ℕ) (ending : Turned G B) → there' ≡ there → ((events : List (Event E)) × IsAdmission there (admission.LetThrough generation) events × Effects events (λ xs. xs ≡ []) held clock between (λ xs. xs ≡ []))
      → ((made report : List (Event E)) × (answer : Attempt G B) × makes answer made × IsRest there' generation answer ending report × Effects (made ++ report) did held-then between clock' (λ xs. xs ≡ []))
      → (events : List (Event E)) × TurnsTo there makes ending events × Effects events did held-all clock clock' (λ xs. xs ≡ [])
  let_through there' generation ending same admits then = (
    (admits.0 ++ then.0) ++ then.1,
    turned there makes generation admits.0 then.0 then.1 admits.1 then.2 ending then.3 (subst (λ z. IsRest z generation then.2 ending then.1) same then.4),
    subst (λ z. Effects z did held-all clock clock' (λ xs. xs ≡ [])) (sym (append_assoc admits.0 then.0 then.1))
        (effects_on admits.0 (then.0 ++ then.1) (λ xs. xs ≡ []) did did held held-then held-all clock between clock' (λ xs. xs ≡ []) (λ xs. xs ≡ []) (λ xs. xs ≡ []) (nothing_before did) held-on nothing_at_all admits.2 then.5),
  )

-- a turn that was not let through
module _ {E G B : Type 0} (there : Bool) (makes : Attempt G B → List (Event E) → Type 0) (did : List E → Type 0) (held : List Step → Type 0) (clock clock' : Clocked) where
  -- a turn whose breaker could not be asked, since its cell is exhausted
  pub not_asked : (count : ℕ) → did [] → ((events : List (Event E)) × IsAdmission there (admission.Exhausted count) events × Effects events (λ xs. xs ≡ []) held clock clock' (λ xs. xs ≡ []))
      → (events : List (Event E)) × (there ≡ true × CutOff makes events) × Effects events did held clock clock' (λ xs. xs ≡ [])
  not_asked count none-done a = (a.0, (a.1.0, unasked a.1.1.0 a.1.1.1), record { owned = subst did (sym a.2.owned) none-done; guards = a.2.guards; times = a.2.times; pauses = a.2.pauses; ticks = a.2.ticks; words = a.2.words })

-- what attempts do may be said of the operation as it was before
module _ {E G B : Type 0} (there : Bool) (makes makes' : Attempt G B → List (Event E) → Type 0) (alike : (answer : Attempt G B) (events : List (Event E)) → makes' answer events → makes answer events) where
  turn_as : (answer : Attempt G B) (events : List (Event E)) → Turn there makes' answer events → Turn there makes answer events
  turn_as answer events t = record { admission = t.admission; attempt = t.attempt; report = t.report; generation = t.generation; admitted = t.admitted; made = alike answer t.attempt t.made; reported = t.reported; whole = t.whole }

  cut_as : (events : List (Event E)) → CutOff makes' events → CutOff makes events
  cut_as events (unasked now is) = unasked now is
  cut_as events (unreported admission attempt generation answer now admits did is) = unreported admission attempt generation answer now admits (alike answer attempt did) is

  turns_as : (ending : Turned G B) (events : List (Event E)) → TurnsTo there makes' ending events → TurnsTo there makes ending events
  turns_as (Failed bad) events t = turn_as (attempt.Bad bad) events t
  turns_as (Ended (outcome.Good good)) events t = turn_as (attempt.Good good) events t
  turns_as (Ended outcome.NoMemory) events t = turn_as attempt.NoMemory events t
  turns_as (Ended (outcome.Refused refusal)) events t = t
  turns_as (Ended (outcome.Exhausted count)) events t = (t.0, cut_as events t.1)
  turns_as (Ended (outcome.Bad bad)) events t = absurd t

  pub turn_from : (there' : Bool) (did : List E → Type 0) (held : List Step → Type 0) (clock clock' : Clocked) (ending : Turned G B) → there' ≡ there
      → ((events : List (Event E)) × TurnsTo there' makes' ending events × Effects events did held clock clock' (λ xs. xs ≡ []))
      → (events : List (Event E)) × TurnsTo there makes ending events × Effects events did held clock clock' (λ xs. xs ≡ [])
  turn_from there' did held clock clock' ending same t = (t.0, turns_as ending t.0 (subst (λ z. TurnsTo z makes' ending t.0) same t.1), t.2)
