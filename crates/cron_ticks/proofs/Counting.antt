-- The numbers of the ticks that a history has given.
use Rattle.std.proofs.Common.{◌≡◌, ◌≢◌, ◌↔◌, ◌≤◌, ◌<◌, ◌+◌, ◌-◌, ◌*◌, ◌/◌, ◌==◌, ◌⊎◌, inl, inr, ℕ, zero, suc, Bool, true, false, max, List, [], ◌∷◌, ◌++◌, All, length, Option, Some, None, arith, refl, sym, ap, subst, ◌∙◌, fold, length-append, append_assoc, append-nil, cond, if◌then◌else◌}
use Rattle.std.specs.List.{flat_map}
use Rattle.std.proofs.lemmas.Grind.{flat_map-append}
use Rattle.std.proofs.lemmas.Bool.{cases_order, cases_lt}
use Rattle.std.proofs.lemmas.Bool.Decides.{nat_tests}
use Rattle.std.proofs.lemmas.List.Elements.{All-get_or}
use Rattle.std.proofs.Math.Nat.{le-div_iff_mul-le, suc-mul}
use Rattle.turn_cell.specs.declared.entry.Entry.{Entry}
use Rattle.turn_cell.specs.History.{IsLegal}
use Rattle.cron_ticks.specs.declared.command.TicksReply.{TicksReply}
use Rattle.cron_ticks.specs.declared.command.TicksReply.TheVariants.{Tick, Idle}
use Rattle.cron_ticks.specs.Schedule.{Step, Schedule, IsPeriod, IsTick, period_at, moment_of}
use Rattle.cron_ticks.specs.Course.{IsUpTo, Gives, Took, Answers, IsLeast, IsIdle, IsStep, moment_in}
use Rattle.cron_ticks.specs.Laws.{number_in, numbers_at, up_to, AreInOrder, TakesAllThatAreDue}
use Rattle.cron_ticks.proofs.Order.{due_up_to}
use Rattle.cron_ticks.proofs.Stepping.{took_more, took_before, took_now, grows, moment_more}

-- ---- what holds of the ticks of one place after a history: they are those up to a number, which was due at the greatest moment or before
pub record Held (s : Schedule) (place : ℕ) (history : List Step) : Type 0 where
  pub count : ℕ
  pub numbers : numbers_at place history ≡ up_to count
  pub ripe : s.start + count * period_at s place ≤ moment_in s.start history
  pub took : (number : ℕ) → Took history place number → (1 ≤ number) × (number ≤ count)
  pub has : (number : ℕ) → 1 ≤ number → number ≤ count → Took history place number

none_held : (s : Schedule) (place : ℕ) → Held s place []
none_held s place = record { count = 0; numbers = refl; ripe = omega arith; took = λ number took. absurd took; has = λ number least most. absurd (omega (arith, least, most)) }

numbers_more : (place : ℕ) (history : List Step) (entry : Step) → numbers_at place (history ++ entry ∷ []) ≡ numbers_at place history ++ number_in place entry.reply
numbers_more place history entry =
    flat_map-append (λ (e : Step). number_in place e.reply) history (entry ∷ []) ∙ ap (λ n. numbers_at place history ++ n) (append-nil (number_in place entry.reply))

moment_grows : (start : ℕ) (history : List Step) (entry : Step) → moment_in start history ≤ moment_in start (history ++ entry ∷ [])
moment_grows start history entry = omega (arith, moment_more start history entry)

one_up : (count : ℕ) → up_to count ++ (count + 1) ∷ [] ≡ up_to (count + 1)
one_up count = subst (λ n. up_to count ++ n ∷ [] ≡ up_to n) (let e : suc count ≡ count + 1 = omega arith in e) refl

quotient : (all period count : ℕ) → 1000 ≤ period → count * period ≤ all → all < count * period + period → all / period ≡ count
quotient all period count least few many =
    let some : 0 < period = omega (arith, least) in
    let at_least : count ≤ all / period = (le-div_iff_mul-le some).1 few in
    elim (cases_lt count (all / period)) [
      | inl more ↦ let far : suc count * period ≤ all = (le-div_iff_mul-le some).0 more in absurd (omega (arith, far, suc-mul count period, many))
      | inr most ↦ omega (arith, at_least, most)
    ]

eq_true : (at place : ℕ) → at ≡ place → (at == place) ≡ true
eq_true at place same = grind (arith, nat_tests)

eq_false : (at place : ℕ) → (at < place) ⊎ (place < at) → (at == place) ≡ false
eq_false at place (inl less) = grind (arith, nat_tests)
eq_false at place (inr more) = grind (arith, nat_tests)

module _ (s : Schedule) (each : All IsPeriod s.periods) (place : ℕ) (there : place < length s.periods) (history : List Step) (held : Held s place history) (entry : Step) where
  abbrev now : ℕ
  now = moment_in s.start (history ++ entry ∷ [])

  period : IsPeriod (period_at s place)
  period = All-get_or IsPeriod s.periods place 0 there each

  -- an answer that gives no tick of this place
  other_held : number_in place entry.reply ≡ [] → ((number : ℕ) → Gives entry.reply place number → ⊥) → Held s place (history ++ entry ∷ [])
  other_held none never = record {
    count = held.count;
    numbers = numbers_more place history entry ∙ ap (λ n. numbers_at place history ++ n) none ∙ append-nil (numbers_at place history) ∙ held.numbers;
    ripe = omega (arith, held.ripe, moment_grows s.start history entry);
    took = λ number took. elim (took_more history entry place number took) [
      | inl earlier ↦ held.took number earlier
      | inr gives ↦ absurd (never number gives)
    ];
    has = λ number least most. took_before history entry place number (held.has number least most);
  }

  -- the tick after those that were given
  next_tick : IsTick s place (held.count + 1) (s.start + (held.count + 1) * period_at s place)
  next_tick = record { there = there; counted = omega arith; due_is = refl }

  next_free : Took history place (held.count + 1) → ⊥
  next_free took = absurd (omega (arith, (held.took (held.count + 1) took).1))

  -- a tick of this place that is given is the one after those that were given
  next_number : (number due : ℕ) → IsLeast s history now place number due → number ≡ held.count + 1
  next_number number due least = elim (cases_order number (held.count + 1)) [
    | inl same ↦ same
    | inr (inl less) ↦ absurd (least.free (held.has number least.tick.counted (omega (arith, less))))
    | inr (inr more) ↦
        let far = grows (period_at s place) (held.count + 1) number more in
        let early : s.start + (held.count + 1) * period_at s place ≤ now = omega (arith, far, least.tick.due_is, least.ripe) in
        let up = due_up_to due place (s.start + (held.count + 1) * period_at s place) place
        (least.least place (held.count + 1) (s.start + (held.count + 1) * period_at s place) next_tick next_free early) in
        absurd (omega (arith, far, up, least.tick.due_is, period.least))
  ]

  this_held : (number due : ℕ) → entry.reply ≡ Tick place number due → number_in place entry.reply ≡ number ∷ [] → IsLeast s history now place number due → Held s place (history ++ entry ∷ [])
  this_held number due is one least =
      let next = next_number number due least in
      record {
        count = held.count + 1;
        numbers = numbers_more place history entry ∙ ap (λ n. numbers_at place history ++ n) (one ∙ ap (λ n. n ∷ []) next) ∙ ap (λ n. n ++ (held.count + 1) ∷ []) held.numbers ∙ one_up held.count;
        ripe = subst (λ n. s.start + n * period_at s place ≤ now) next (omega (arith, least.ripe, least.tick.due_is));
        took = λ n took. elim (took_more history entry place n took) [
          | inl earlier ↦ let e = held.took n earlier in (e.0, omega (arith, e.1))
          | inr gives ↦ let g = subst (λ r. Gives r place n) is gives in (omega (arith, g.1, next), omega (arith, g.1, next))
        ];
        has = λ n at_least at_most. elim (cases_lt held.count n) [
          | inl last ↦ took_now history entry place n (subst (λ r. Gives r place n) (sym is) (refl, omega (arith, next, last, at_most)))
          | inr earlier ↦ took_before history entry place n (held.has n at_least earlier)
        ];
      }

  by_place : (at number due : ℕ) → entry.reply ≡ Tick at number due → IsLeast s history now at number due → Held s place (history ++ entry ∷ [])
  by_place at number due is least = elim (cases_order at place) [
    | inl same ↦
        this_held number due (is ∙ ap (λ p. Tick p number due) same) (ap (λ r. number_in place r) is ∙ rw (eq_true at place same) refl) (subst (λ p. IsLeast s history now p number due) same least)
    | inr (inl less) ↦
        other_held (ap (λ r. number_in place r) is ∙ rw (eq_false at place (inl less)) refl) (λ n gives. absurd (omega (arith, less, (subst (λ r. Gives r place n) is gives).0)))
    | inr (inr more) ↦
        other_held (ap (λ r. number_in place r) is ∙ rw (eq_false at place (inr more)) refl) (λ n gives. absurd (omega (arith, more, (subst (λ r. Gives r place n) is gives).0)))
  ]

  by_reply : (reply : TicksReply) → entry.reply ≡ reply → Answers s history now reply → Held s place (history ++ entry ∷ [])
  by_reply (Tick at number due) is answers = by_place at number due is answers
  by_reply (Idle next) is answers = other_held (ap (λ r. number_in place r) is) (λ n gives. subst (λ r. Gives r place n) is gives)

  pub one_more : IsStep s history entry → Held s place (history ++ entry ∷ [])
  one_more step = by_reply entry.reply refl step.reply

  -- where none is due, all that are due were given
  pub idle_count : (next : Option ℕ) → IsIdle s history now next → (now - s.start) / period_at s place ≡ held.count
  idle_count next idle =
      let early = idle.none place (held.count + 1) (s.start + (held.count + 1) * period_at s place) next_tick next_free in
      quotient (now - s.start) (period_at s place) held.count period.least (omega (arith, held.ripe, moment_grows s.start history entry)) (omega (arith, early, held.ripe, moment_grows s.start history entry, suc-mul held.count (period_at s place)))

-- ---- a whole history

module _ (s : Schedule) (each : All IsPeriod s.periods) (place : ℕ) (there : place < length s.periods) (history : List Step)
    (steps : (earlier later : List Step) (entry : Step) → history ≡ earlier ++ entry ∷ later → IsStep s earlier entry) where
  pub walked : (done rest tail : List Step) → history ≡ done ++ rest ++ tail → Held s place done → Held s place (done ++ rest)
  walked done [] tail whole held = subst (Held s place) (sym (append-nil done)) held
  walked done (entry ∷ rest) tail whole held =
      let step = steps done (rest ++ tail) entry (whole ∙ append_assoc done (entry ∷ rest) tail) in
      let more = one_more s each place there done held entry step in
      let again : (done ++ entry ∷ []) ++ rest ≡ done ++ entry ∷ rest = append_assoc done (entry ∷ []) rest in
      subst (Held s place) again (walked (done ++ entry ∷ []) rest tail (whole ∙ ap (λ l. l ++ tail) (sym again)) more)

  pub all_held : Held s place history
  all_held = walked [] history [] (sym (append-nil history)) (none_held s place)

  pub earlier_held : (earlier later : List Step) (entry : Step) → history ≡ earlier ++ entry ∷ later → Held s place earlier
  earlier_held earlier later entry whole = walked [] earlier (entry ∷ later) whole (none_held s place)

pub in_order : (s : Schedule) (history : List Step) → All IsPeriod s.periods → ((earlier later : List Step) (entry : Step) → history ≡ earlier ++ entry ∷ later → IsStep s earlier entry) → AreInOrder s history
in_order s history each steps place there = let held = all_held s each place there history steps in (held.count, held.numbers)

pub takes_all : (s : Schedule) (history : List Step) → All IsPeriod s.periods → ((earlier later : List Step) (entry : Step) → history ≡ earlier ++ entry ∷ later → IsStep s earlier entry) → TakesAllThatAreDue s history
takes_all s history each steps earlier later entry next whole idle place there =
    let held = earlier_held s each place there history steps earlier later entry whole in
    let step = steps earlier later entry whole in
    let answers = subst (λ r. Answers s earlier (moment_in s.start (earlier ++ entry ∷ [])) r) idle step.reply in
    held.numbers ∙ ap up_to (sym (idle_count s each place there earlier held entry next answers))
