-- What asking the breaker, and telling it, does.
use Rattle.std.proofs.Common.{◌≡◌, ℕ, Bool, true, false, List, [], ◌∷◌, Ok, Err, refl, sym, subst, arith}
use Rattle.breaker_core.specs.declared.command.BreakerCmd.TheVariants.{Admit, Report}
use Rattle.breaker_core.specs.declared.command.BreakerReply.{BreakerReply}
use Rattle.breaker_core.specs.declared.command.BreakerReply.TheVariants.{Admitted, Opened, TooMany, Counted, Stale}
use Rattle.breaker_core.specs.Course.{Step}
use Rattle.turn_cell.specs.declared.error.Exhausted.{Exhausted}
use Rattle.policy_run.specs.declared.turn.Admission.{Admission}
use Rattle.policy_run.specs.declared.turn.Admission.TheVariants as admission
use Rattle.policy_run.specs.Event.{Event, guarded, moment}
use Rattle.policy_run.specs.Effects.{Clocked, Effects, ReadsNow}
use Rattle.policy_run.specs.Turn.{Answers, IsAdmittedBy, IsAdmission, IsReport, IsReported, LetsThrough}
use Rattle.policy_run.proofs.Composed.{no_effects}

module _ (E : Type 0) (now : ℕ) where
  is_admission : (step : Step) (reply : BreakerReply) (a : Admission) → Answers step (Admit now) reply → IsAdmittedBy reply a → IsAdmission {E = E} true a (moment now ∷ guarded step ∷ [])
  is_admission step (Admitted generation half) a answers by = subst (λ z. IsAdmission {E = E} true z (moment now ∷ guarded step ∷ [])) (sym by) (half, record { now = now; step = step; answers = answers; whole = refl })
  is_admission step (Opened until) a answers by = subst (λ z. IsAdmission {E = E} true z (moment now ∷ guarded step ∷ [])) (sym by) (refl, record { now = now; step = step; answers = answers; whole = refl })
  is_admission step (TooMany out) a answers by = subst (λ z. IsAdmission {E = E} true z (moment now ∷ guarded step ∷ [])) (sym by) (refl, record { now = now; step = step; answers = answers; whole = refl })
  is_admission step Counted a answers by = absurd by
  is_admission step (Stale current) a answers by = absurd by

module _ {E : Type 0} (held : List Step → Type 0) (clock clock' : Clocked) (now : ℕ) (reads : ReadsNow clock now clock') where
  asked_once : (step : Step) → held (step ∷ []) → Effects {E = E} (moment now ∷ guarded step ∷ []) (λ xs. xs ≡ []) held clock clock' (λ xs. xs ≡ [])
  asked_once step did = record {
    owned = refl;
    guards = did;
    times = (omega (arith, reads.later, reads.last), omega (arith, reads.last));
    pauses = (omega (arith, reads.paused), omega (arith, reads.paused), λ below. omega (arith, reads.paused));
    ticks = reads.ticks;
    words = refl;
  }

  looked : held [] → Effects {E = E} (moment now ∷ []) (λ xs. xs ≡ []) held clock clock' (λ xs. xs ≡ [])
  looked did = record {
    owned = refl;
    guards = did;
    times = (omega (arith, reads.later, reads.last), omega (arith, reads.last));
    pauses = (omega (arith, reads.paused), omega (arith, reads.paused), λ below. omega (arith, reads.paused));
    ticks = reads.ticks;
    words = refl;
  }

  -- the breaker answered
  pub admitted : (there : Bool) (reply : BreakerReply) (a : Admission) → there ≡ true → ((step : Step) × Answers step (Admit now) reply × held (step ∷ [])) → IsAdmittedBy reply a
      → (events : List (Event E)) × IsAdmission there a events × Effects events (λ xs. xs ≡ []) held clock clock' (λ xs. xs ≡ [])
  admitted there reply a is-there did by = (moment now ∷ guarded did.0 ∷ [], subst (λ z. IsAdmission {E = E} z a (moment now ∷ guarded did.0 ∷ [])) (sym is-there) (is_admission E now did.0 reply a did.1 by), asked_once did.0 did.2)

  -- the breaker's cell was exhausted
  pub unadmitted : (there : Bool) (count : ℕ) → there ≡ true → held [] → (events : List (Event E)) × IsAdmission there (admission.Exhausted count) events × Effects events (λ xs. xs ≡ []) held clock clock' (λ xs. xs ≡ [])
  unadmitted there count is-there did = (moment now ∷ [], (is-there, (now, refl)), looked did)

  -- the same of a report
  pub reported : (there : Bool) (generation : ℕ) (good : Bool) (reply : BreakerReply) → there ≡ true → ((step : Step) × Answers step (Report generation now good) reply × held (step ∷ []))
      → (events : List (Event E)) × IsReport there generation good (Ok tt) events × Effects events (λ xs. xs ≡ []) held clock clock' (λ xs. xs ≡ [])
  reported there generation good reply is-there did =
      (moment now ∷ guarded did.0 ∷ [], subst (λ z. IsReport {E = E} z generation good (Ok tt) (moment now ∷ guarded did.0 ∷ [])) (sym is-there) (record { now = now; step = did.0; reply = reply; answers = did.1; whole = refl }), asked_once did.0 did.2)

  pub unreported : (there : Bool) (generation : ℕ) (good : Bool) (exhausted : Exhausted) → there ≡ true → held []
      → (events : List (Event E)) × IsReport there generation good (Err exhausted) events × Effects events (λ xs. xs ≡ []) held clock clock' (λ xs. xs ≡ [])
  unreported there generation good exhausted is-there did = (moment now ∷ [], (is-there, (now, refl)), looked did)

-- without a breaker nothing is asked, and nothing told
module _ {E : Type 0} (held : List Step → Type 0) (clock : Clocked) (none-held : held []) where
  nothing_made : Effects {E = E} [] (λ xs. xs ≡ []) held clock clock (λ xs. xs ≡ [])
  nothing_made = no_effects (λ xs. xs ≡ []) held clock (λ xs. xs ≡ []) refl none-held refl

  pub unasked : (there : Bool) → there ≡ false → (events : List (Event E)) × LetsThrough there 0 events × Effects events (λ xs. xs ≡ []) held clock clock (λ xs. xs ≡ [])
  unasked false gone = ([], refl, nothing_made)
  unasked true gone = let bad : ⊥ = cc in absurd bad

  pub untold : (there : Bool) (generation : ℕ) (good : Bool) → there ≡ false → (events : List (Event E)) × IsReported there generation good events × Effects events (λ xs. xs ≡ []) held clock clock (λ xs. xs ≡ [])
  untold false generation good gone = ([], refl, nothing_made)
  untold true generation good gone = let bad : ⊥ = cc in absurd bad
