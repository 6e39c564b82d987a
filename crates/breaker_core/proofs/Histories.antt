-- The laws of breakers, over plain histories.
use Rattle.std.proofs.Common.{◌≡◌, ◌<◌, ◌≤◌, ◌+◌, ◌⊎◌, ℕ, Bool, true, false, nat_lt, List, [], ◌∷◌, ◌++◌, length, count_by, fold, Option, Some, None, refl, ap, sym, subst, ◌∙◌, inl, inr, arith, append_assoc, cond, ◌==◌}
use Rattle.std.specs.List.{flat_map, AllByRecursion}
use Rattle.std.proofs.lemmas.List.{append-nil, reverse-append}
use Rattle.std.proofs.lemmas.Bool.{false≢true}
use Rattle.std.proofs.lemmas.List.Sums.{sum_by-cons, fold-append}
use Rattle.std.proofs.lemmas.Bool.Decides.{nat_tests}
use Rattle.retry_core.specs.declared.policy.BreakerPolicy.{BreakerPolicy}
use Rattle.breaker_core.specs.declared.command.BreakerCmd.{BreakerCmd}
use Rattle.breaker_core.specs.declared.command.BreakerCmd.TheVariants.{Admit, Report}
use Rattle.breaker_core.specs.declared.command.BreakerReply.{BreakerReply}
use Rattle.breaker_core.specs.declared.command.BreakerReply.TheVariants.{Admitted, TooMany, Counted, Stale}
use Rattle.breaker_core.specs.declared.phase.Phase.{Phase}
use Rattle.breaker_core.specs.declared.phase.Phase.TheVariants.{Closed, Open, HalfOpen}
use Rattle.breaker_core.specs.Course.{Generation, Step, Course, begun, over_in, is_over, phase_after, found, led_to, followed, added, now_in, is_admission, is_admitted, reply_in, reply_of, course_after, course_of}
use Rattle.breaker_core.specs.Laws.{EachSteps, Rests, IsCareful, IsCarefulAlways, IsDivided}
use Rattle.breaker_core.proofs.Steps.{course_of-snoc}

-- ---- every entry is in one generation

abbrev entries_in : List Generation → List Step
entries_in gs = flat_map (λ (g : Generation). g.entries) gs

found_entries : (policy : BreakerPolicy) (now : ℕ) (gs : List Generation) → entries_in (found policy now gs) ≡ entries_in gs
found_entries policy now [] = refl
found_entries policy now (g ∷ gs) = by_test (is_over policy now g)
  where
    by_test : (over : Bool) → entries_in (cond over (begun (phase_after g.phase) now ∷ g ∷ gs) (g ∷ gs)) ≡ entries_in (g ∷ gs)
    by_test true = refl
    by_test false = refl

followed_entries : (now : ℕ) (led : Option Phase) (gs : List Generation) → entries_in (followed now led gs) ≡ entries_in gs
followed_entries now None gs = refl
followed_entries now (Some phase) gs = refl

-- an entry joins those of the present generation
added_entries : (policy : BreakerPolicy) (now : ℕ) (entry : Step) (g : Generation) (gs : List Generation) → entries_in (added policy now entry (g ∷ gs)) ≡ entry ∷ entries_in (g ∷ gs)
added_entries policy now entry g gs = followed_entries now (led_to policy now g.phase (entry ∷ g.entries) entry) (record { phase = g.phase; start = g.start; entries = entry ∷ g.entries } ∷ gs)

-- the generations that a command finds are there
found_some : (policy : BreakerPolicy) (now : ℕ) (entry : Step) (gs : List Generation) → entries_in (added policy now entry (found policy now gs)) ≡ entry ∷ entries_in (found policy now gs)
found_some policy now entry [] = added_entries policy now entry (begun Closed now) []
found_some policy now entry (g ∷ gs) = by_test (is_over policy now g)
  where
    by_test : (over : Bool) → entries_in (added policy now entry (cond over (begun (phase_after g.phase) now ∷ g ∷ gs) (g ∷ gs))) ≡ entry ∷ entries_in (cond over (begun (phase_after g.phase) now ∷ g ∷ gs) (g ∷ gs))
    by_test true = added_entries policy now entry (begun (phase_after g.phase) now) (g ∷ gs)
    by_test false = added_entries policy now entry g gs

divided_on : (policy : BreakerPolicy) (before rest : List Step) → IsDivided policy before → IsDivided policy (before ++ rest)
divided_on policy before [] divided = subst (IsDivided policy) (sym (append-nil before)) divided
divided_on policy before (entry ∷ rest) divided =
    let now = now_in (course_of policy before) entry.cmd in
    let here : IsDivided policy (before ++ entry ∷ []) =
    ap (λ (c : Course). entries_in c.generations) (course_of-snoc policy before entry)
    ∙ found_some policy (now_in (course_of policy before) entry.cmd) entry (course_of policy before).generations
    ∙ ap (λ es. entry ∷ es) (found_entries policy (now_in (course_of policy before) entry.cmd) (course_of policy before).generations ∙ divided)
    ∙ sym (reverse-append before (entry ∷ [])) in
    subst (IsDivided policy) (append_assoc before (entry ∷ []) rest) (divided_on policy (before ++ entry ∷ []) rest here)

pub is_divided : (policy : BreakerPolicy) (history : List Step) → IsDivided policy history
is_divided policy history = divided_on policy [] history refl

-- ---- an open breaker rests

-- the present generation is open up to this moment, or the moment has passed
abbrev IsLate : ℕ → Course → Type 0
IsLate until course =
    (until < course.latest) ⊎ ((g : Generation) × (gs : List Generation) × (course.generations ≡ g ∷ gs) × (g.phase ≡ Open until))

-- an open generation that isn't over stays open
stays_open : (policy : BreakerPolicy) (latest until now : ℕ) (entry : Step) (g : Generation) (gs : List Generation) (over : Bool) → g.phase ≡ Open until → over ≡ nat_lt until now → latest ≤ now →
    IsLate until (record { latest = now; generations = added policy now entry (cond over (begun (phase_after g.phase) now ∷ g ∷ gs) (g ∷ gs)) })
stays_open policy latest until now entry g gs true is_open is_over later = inl (grind (arith, nat_tests))
stays_open policy latest until now entry g gs false is_open is_over later =
    inr (
      record { phase = g.phase; start = g.start; entries = entry ∷ g.entries },
      gs,
      ap (λ (phase : Phase). followed now (led_to policy now phase (entry ∷ g.entries) entry) (record { phase = g.phase; start = g.start; entries = entry ∷ g.entries } ∷ gs)) is_open,
      is_open,
    )

late_after : (policy : BreakerPolicy) (until : ℕ) (course : Course) (entry : Step) → IsLate until course → IsLate until (course_after policy course entry)
late_after policy until course entry (inl late) = inl (omega (arith, late))
late_after policy until course entry (inr (g, gs, same, is_open)) =
    subst (λ (z : List Generation). IsLate until (record { latest = now_in course entry.cmd; generations = added policy (now_in course entry.cmd) entry (found policy (now_in course entry.cmd) z) })) (sym same)
    (stays_open policy course.latest until (now_in course entry.cmd) entry g gs (is_over policy (now_in course entry.cmd) g) is_open (ap (over_in policy (now_in course entry.cmd) g.start) is_open) (omega arith))

late_through : (policy : BreakerPolicy) (until : ℕ) (course : Course) (between : List Step) → IsLate until course → IsLate until (fold (course_after policy) course between)
late_through policy until course [] late = late
late_through policy until course (entry ∷ between) late = late_through policy until (course_after policy course entry) between (late_after policy until course entry late)

-- an open generation lets nobody through
refuses : (policy : BreakerPolicy) (until : ℕ) (entries : List Step) (number : ℕ) (cmd : BreakerCmd) → is_admitted (reply_in policy (Open until) entries number cmd) ≡ false
refuses policy until entries number (Admit now) = refl
refuses policy until entries number (Report generation now good) = no_admission number (generation == number)
  where
    no_admission : (number : ℕ) (b : Bool) → is_admitted (cond b Counted (Stale number)) ≡ false
    no_admission number true = refl
    no_admission number false = refl

-- who is let through comes after the last moment
let_through : (policy : BreakerPolicy) (until : ℕ) (course : Course) (cmd : BreakerCmd) (reply : BreakerReply) → IsLate until course → reply ≡ reply_of policy (found policy (now_in course cmd) course.generations) cmd → is_admitted reply ≡ true → until < now_in course cmd
let_through policy until course cmd reply (inl late) is admitted = omega (arith, late)
let_through policy until course cmd reply (inr (g, gs, same, is_open)) is admitted =
    by_test (is_over policy (now_in course cmd) g) (ap (over_in policy (now_in course cmd) g.start) is_open) (is ∙ ap (λ (z : List Generation). reply_of policy (found policy (now_in course cmd) z) cmd) same)
  where
    by_test : (over : Bool) → over ≡ nat_lt until (now_in course cmd) → reply ≡ reply_of policy (cond over (begun (phase_after g.phase) (now_in course cmd) ∷ g ∷ gs) (g ∷ gs)) cmd → until < now_in course cmd
    by_test true is_over replied = grind (arith, nat_tests)
    by_test false is_over replied =
        absurd (false≢true (
        sym (refuses policy until g.entries (length gs) cmd)
        ∙ ap (λ (phase : Phase). is_admitted (reply_in policy phase g.entries (length gs) cmd)) (sym is_open)
        ∙ ap is_admitted (sym replied)
        ∙ admitted
        ))

pub rests : (policy : BreakerPolicy) (history : List Step) → EachSteps policy history → Rests policy history
rests policy history legal before between after opening admission moment is opens admitted =
    let parts : history ≡ (before ++ opening ∷ between) ++ admission ∷ after = is ∙ sym (append_assoc before (opening ∷ between) (admission ∷ after)) in
    let step = legal (before ++ opening ∷ between) after admission parts in
    let course : course_of policy (before ++ opening ∷ between) ≡ fold (course_after policy) (course_of policy (before ++ opening ∷ [])) between =
    ap (course_of policy) (sym (append_assoc before (opening ∷ []) between))
    ∙ fold-append (course_after policy) _ (before ++ opening ∷ []) between in
    let late : IsLate (moment + policy.timeout_ms) (course_of policy (before ++ opening ∷ between)) =
    subst (IsLate (moment + policy.timeout_ms)) (sym course)
    (late_through policy (moment + policy.timeout_ms) _ between (inr (begun (Open (moment + policy.timeout_ms)) moment, opens.earlier, opens.generations, refl))) in
    let_through policy (moment + policy.timeout_ms) _ admission.cmd admission.reply late step.reply admitted

-- ---- a half-open breaker is careful

abbrev EachCareful : BreakerPolicy → List Generation → Type 0
EachCareful policy gs = AllByRecursion (IsCareful policy) gs

careful_found : (policy : BreakerPolicy) (now : ℕ) (gs : List Generation) → EachCareful policy gs → EachCareful policy (found policy now gs)
careful_found policy now [] careful = ((λ _. omega arith), tt)
careful_found policy now (g ∷ gs) careful = by_test (is_over policy now g)
  where
    by_test : (over : Bool) → EachCareful policy (cond over (begun (phase_after g.phase) now ∷ g ∷ gs) (g ∷ gs))
    by_test true = ((λ _. omega arith), careful)
    by_test false = careful

-- one more call is let through only where fewer than the most were
one_more : (policy : BreakerPolicy) (entries : List Step) (number : ℕ) (cmd : BreakerCmd) → count_by is_admission entries ≤ policy.max_requests → is_admitted (reply_in policy HalfOpen entries number cmd) ≡ true → count_by is_admission entries + 1 ≤ policy.max_requests
one_more policy entries number (Admit now) few admitted = by_test (count_by is_admission entries == policy.max_requests) refl admitted
  where
    by_test : (most : Bool) → most ≡ (count_by is_admission entries == policy.max_requests) → is_admitted (cond most (TooMany (count_by is_admission entries)) (Admitted number true)) ≡ true → count_by is_admission entries + 1 ≤ policy.max_requests
    by_test true is e = absurd (false≢true e)
    by_test false is e = grind (arith, nat_tests)
one_more policy entries number (Report generation now good) few admitted = absurd (false≢true (sym (no_admission number (generation == number)) ∙ admitted))
  where
    no_admission : (number : ℕ) (b : Bool) → is_admitted (cond b Counted (Stale number)) ≡ false
    no_admission number true = refl
    no_admission number false = refl

-- the present generation with one entry more
careful_head : (policy : BreakerPolicy) (entry : Step) (g : Generation) (number : ℕ) → IsCareful policy g → entry.reply ≡ reply_in policy g.phase g.entries number entry.cmd → g.phase ≡ HalfOpen → count_by is_admission (entry ∷ g.entries) ≤ policy.max_requests
careful_head policy entry g number careful is half =
    by_test (is_admission entry) refl (sum_by-cons (λ x. cond (is_admission x) 1 0) entry g.entries)
  where
    by_test : (admitted : Bool) → admitted ≡ is_admission entry → count_by is_admission (entry ∷ g.entries) ≡ cond (is_admission entry) 1 0 + count_by is_admission g.entries → count_by is_admission (entry ∷ g.entries) ≤ policy.max_requests
    by_test true e count =
        let more = one_more policy g.entries number entry.cmd (careful half) (ap (λ (phase : Phase). is_admitted (reply_in policy phase g.entries number entry.cmd)) (sym half) ∙ ap is_admitted (sym is) ∙ sym e) in
        omega (arith, more, count ∙ ap (λ b. cond b 1 0 + count_by is_admission g.entries) (sym e))
    by_test false e count = omega (arith, careful half, count ∙ ap (λ b. cond b 1 0 + count_by is_admission g.entries) (sym e))

careful_followed : (policy : BreakerPolicy) (now : ℕ) (led : Option Phase) (gs : List Generation) → EachCareful policy gs → EachCareful policy (followed now led gs)
careful_followed policy now None gs careful = careful
careful_followed policy now (Some phase) gs careful = ((λ _. omega arith), careful)

careful_added : (policy : BreakerPolicy) (now : ℕ) (entry : Step) (gs : List Generation) → EachCareful policy gs → entry.reply ≡ reply_of policy gs entry.cmd → EachCareful policy (added policy now entry gs)
careful_added policy now entry [] careful is = tt
careful_added policy now entry (g ∷ gs) careful is =
    careful_followed policy now (led_to policy now g.phase (entry ∷ g.entries) entry) _ (careful_head policy entry g (length gs) careful.0 is, careful.1)

careful_on : (policy : BreakerPolicy) (before rest : List Step) → EachSteps policy (before ++ rest) → IsCarefulAlways policy before → IsCarefulAlways policy (before ++ rest)
careful_on policy before [] legal careful = subst (IsCarefulAlways policy) (sym (append-nil before)) careful
careful_on policy before (entry ∷ rest) legal careful =
    let step = legal before rest entry refl in
    let here : IsCarefulAlways policy (before ++ entry ∷ []) =
    subst (λ (c : Course). EachCareful policy c.generations) (sym (course_of-snoc policy before entry))
    (careful_added policy (now_in (course_of policy before) entry.cmd) entry _ (careful_found policy (now_in (course_of policy before) entry.cmd) (course_of policy before).generations careful) step.reply) in
    subst (IsCarefulAlways policy) (append_assoc before (entry ∷ []) rest)
    (careful_on policy (before ++ entry ∷ []) rest (subst (EachSteps policy) (sym (append_assoc before (entry ∷ []) rest)) legal) here)

pub is_careful : (policy : BreakerPolicy) (history : List Step) → EachSteps policy history → IsCarefulAlways policy history
is_careful policy history legal = careful_on policy [] history legal tt
