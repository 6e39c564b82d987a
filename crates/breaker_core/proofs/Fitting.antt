-- Each reply of a legal history fits its command.
use Rattle.std.proofs.Common.{◌≡◌, ◌<◌, ◌+◌, ℕ, Bool, true, false, List, [], ◌∷◌, ◌++◌, length, length-append, count_by, Option, Some, None, refl, ap, sym, subst, arith, cond, ◌==◌, append_assoc}
use Rattle.std.specs.Prelude.{◌&&◌}
use Rattle.std.specs.List.{AllByRecursion}
use Rattle.std.proofs.lemmas.Bool.{false≢true, eq-eqb}
use Rattle.retry_core.specs.declared.policy.BreakerPolicy.{BreakerPolicy}
use Rattle.retry_core.specs.BreakerPolicy.{IsWithinLimit}
use Rattle.retry_core.specs.Trip.{is_tripped}
use Rattle.breaker_core.specs.declared.command.BreakerCmd.{BreakerCmd}
use Rattle.breaker_core.specs.declared.command.BreakerCmd.TheVariants.{Admit, Report}
use Rattle.breaker_core.specs.declared.command.BreakerReply.TheVariants.{Admitted, TooMany, Counted, Stale}
use Rattle.breaker_core.specs.declared.phase.Phase.{Phase}
use Rattle.breaker_core.specs.declared.phase.Phase.TheVariants.{Closed, Open, HalfOpen}
use Rattle.breaker_core.specs.Course.{Generation, Step, Course, begun, is_over, phase_after, found, led_to, followed, added, now_in, moment_of, is_admission, is_failing, is_good, counts_of, reply_in, reply_of, course_after, course_of}
use Rattle.breaker_core.specs.Fits.{Fits}
use Rattle.breaker_core.specs.Laws.{EachSteps, AreFitting}
use Rattle.breaker_core.proofs.Steps.{course_of-snoc}

-- an open phase ends in time
abbrev Ends : Phase → Type 0
Ends Closed = Unit {0}
Ends (Open until) = until < 253402300800000 + 31536000000
Ends HalfOpen = Unit {0}

abbrev EachEnds : List Generation → Type 0
EachEnds gs = AllByRecursion (λ (g : Generation). Ends g.phase) gs

-- so far no moment is late
record InTime (course : Course) : Type 0 where
  latest : course.latest < 253402300800000
  ends : EachEnds course.generations

ends_after : (phase : Phase) → Ends (phase_after phase)
ends_after Closed = tt
ends_after (Open until) = tt
ends_after HalfOpen = tt

ends_found : (policy : BreakerPolicy) (now : ℕ) (gs : List Generation) → EachEnds gs → EachEnds (found policy now gs)
ends_found policy now [] ends = (tt, tt)
ends_found policy now (g ∷ gs) ends = by_test (is_over policy now g)
  where
    by_test : (over : Bool) → EachEnds (cond over (begun (phase_after g.phase) now ∷ g ∷ gs) (g ∷ gs))
    by_test true = (ends_after g.phase, ends)
    by_test false = ends

abbrev EndsIf : Option Phase → Type 0
EndsIf None = Unit {0}
EndsIf (Some phase) = Ends phase

ends_led : (policy : BreakerPolicy) (now : ℕ) (phase : Phase) (entries : List Step) (entry : Step) → IsWithinLimit policy → now < 253402300800000 → EndsIf (led_to policy now phase entries entry)
ends_led policy now Closed entries entry within early = by_test (is_failing entry && is_tripped policy.trip (counts_of entries))
  where
    by_test : (opens : Bool) → EndsIf (cond opens (Some (Open (now + policy.timeout_ms))) None)
    by_test true = omega (arith, within.1, early)
    by_test false = tt
ends_led policy now (Open until) entries entry within early = tt
ends_led policy now HalfOpen entries entry within early = by_test (is_failing entry) (is_good entry && (count_by is_good entries == policy.max_requests))
  where
    by_test : (opens closes : Bool) → EndsIf (cond opens (Some (Open (now + policy.timeout_ms))) (cond closes (Some Closed) None))
    by_test true closes = omega (arith, within.1, early)
    by_test false true = tt
    by_test false false = tt

ends_followed : (now : ℕ) (led : Option Phase) (gs : List Generation) → EndsIf led → EachEnds gs → EachEnds (followed now led gs)
ends_followed now None gs one ends = ends
ends_followed now (Some phase) gs one ends = (one, ends)

ends_added : (policy : BreakerPolicy) (now : ℕ) (entry : Step) (gs : List Generation) → IsWithinLimit policy → now < 253402300800000 → EachEnds gs → EachEnds (added policy now entry gs)
ends_added policy now entry [] within early ends = tt
ends_added policy now entry (g ∷ gs) within early ends = ends_followed now (led_to policy now g.phase (entry ∷ g.entries) entry) (record { phase = g.phase; start = g.start; entries = entry ∷ g.entries } ∷ gs) (ends_led policy now g.phase (entry ∷ g.entries) entry within early) ends

next_in_time : (policy : BreakerPolicy) (course : Course) (entry : Step) → IsWithinLimit policy → moment_of entry.cmd < 253402300800000 → InTime course → InTime (course_after policy course entry)
next_in_time policy course entry within early so = let now : now_in course entry.cmd < 253402300800000 = omega (arith, early, so.latest) in record {
  latest = now;
  ends = ends_added policy (now_in course entry.cmd) entry (found policy (now_in course entry.cmd) course.generations) within now (ends_found policy (now_in course entry.cmd) course.generations so.ends);
}

-- ---- the reply

fits_report : (generation now number : ℕ) (good : Bool) → Fits (Report generation now good) (cond (generation == number) Counted (Stale number))
fits_report generation now number good = by_test (generation == number) (λ e. eq-eqb generation number e)
  where
    by_test : (same : Bool) → (generation ≡ number → same ≡ true) → Fits (Report generation now good) (cond same Counted (Stale number))
    by_test true is = tt
    by_test false is = λ e. false≢true (is e)

fits_in : (policy : BreakerPolicy) (phase : Phase) (entries : List Step) (number : ℕ) (cmd : BreakerCmd) → Ends phase → Fits cmd (reply_in policy phase entries number cmd)
fits_in policy Closed entries number (Admit now) ends = tt
fits_in policy (Open until) entries number (Admit now) ends = ends
fits_in policy HalfOpen entries number (Admit now) ends = by_test (count_by is_admission entries == policy.max_requests)
  where
    by_test : (most : Bool) → Fits (Admit now) (cond most (TooMany (count_by is_admission entries)) (Admitted number true))
    by_test true = tt
    by_test false = tt
fits_in policy Closed entries number (Report generation now good) ends = fits_report generation now number good
fits_in policy (Open until) entries number (Report generation now good) ends = fits_report generation now number good
fits_in policy HalfOpen entries number (Report generation now good) ends = fits_report generation now number good

fits_found : (policy : BreakerPolicy) (now : ℕ) (gs : List Generation) (cmd : BreakerCmd) → EachEnds gs → Fits cmd (reply_of policy (found policy now gs) cmd)
fits_found policy now [] cmd ends = fits_in policy Closed [] 0 cmd tt
fits_found policy now (g ∷ gs) cmd ends = by_test (is_over policy now g)
  where
    by_test : (over : Bool) → Fits cmd (reply_of policy (cond over (begun (phase_after g.phase) now ∷ g ∷ gs) (g ∷ gs)) cmd)
    by_test true = fits_in policy (phase_after g.phase) [] (length (g ∷ gs)) cmd (ends_after g.phase)
    by_test false = fits_in policy g.phase g.entries (length gs) cmd ends.0

in_time : (policy : BreakerPolicy) (before rest : List Step) → IsWithinLimit policy → EachSteps policy (before ++ rest) → InTime (course_of policy before) → (front back : List Step) (entry : Step) → rest ≡ front ++ entry ∷ back → Fits entry.cmd entry.reply
in_time policy before [] within legal so front back entry is = absurd (omega (arith, ap length is, length-append front (entry ∷ back)))
in_time policy before (e ∷ rest) within legal so [] back entry is =
    let same : e ≡ entry = ap (head e) is in
    let step = legal before rest e refl in
    subst (λ (x : Step). Fits x.cmd x.reply) same (subst (Fits e.cmd) (sym step.reply) (fits_found policy (now_in (course_of policy before) e.cmd) (course_of policy before).generations e.cmd so.ends))
  where
    head : Step → List Step → Step
    head d [] = d
    head d (x ∷ xs) = x
in_time policy before (e ∷ rest) within legal so (f ∷ front) back entry is =
    let step = legal before rest e refl in
    in_time policy (before ++ e ∷ []) rest within (subst (EachSteps policy) (sym (append_assoc before (e ∷ []) rest)) legal)
    (subst InTime (sym (course_of-snoc policy before e)) (next_in_time policy (course_of policy before) e within step.moment so)) front back entry (ap tail is)
  where
    tail : List Step → List Step
    tail [] = []
    tail (x ∷ xs) = xs

pub are_fitting : (policy : BreakerPolicy) (history : List Step) → IsWithinLimit policy → EachSteps policy history → AreFitting history
are_fitting policy history within legal before after entry is = in_time policy [] history within legal (record { latest = omega arith; ends = tt }) before after entry is
