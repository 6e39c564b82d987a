-- Ticks in the order in which they are taken.
use Rattle.std.proofs.Common.{◌≡◌, ◌≤◌, ◌<◌, ◌+◌, ◌*◌, ◌⊎◌, inl, inr, ℕ, Bool, true, false, All, List, length, Option, Some, None, arith, refl, sym, ap, subst, ◌∙◌, suc, nat_lt}
use Rattle.std.proofs.Math.Nat.{mul-le-mul}
use Rattle.std.proofs.lemmas.Bool.{cases_order, cases_lt}
use Rattle.std.proofs.lemmas.Bool.Decides.{nat_tests}
use Rattle.std.proofs.lemmas.List.Elements.{All-get_or}
use Rattle.cron_ticks.specs.declared.following.Pending.{Pending}
use Rattle.cron_ticks.specs.declared.following.Turn.{Turn}
use Rattle.cron_ticks.specs.Schedule.{Schedule, IsPeriod, IsTick, period_at}
use Rattle.cron_ticks.specs.Course.{IsUpTo}
use Rattle.cron_ticks.specs.Following.{IsBefore, IsLater, IsFirstLater, IsEarlier, IsFirstBelow, IsFoundBelow, IsFollowing, IsBehind}

-- ---- moments and places

-- no tick comes before another one and not behind it
pub not_both : (due place other_due other_place : ℕ) → IsUpTo due place other_due other_place → IsBefore other_due other_place due place → ⊥
not_both due place other_due other_place (inl early) (inl late) = absurd (omega (arith, early, late))
not_both due place other_due other_place (inl early) (inr late) = absurd (omega (arith, early, late.0))
not_both due place other_due other_place (inr same) (inl late) = absurd (omega (arith, same.0, late))
not_both due place other_due other_place (inr same) (inr late) = absurd (omega (arith, same.1, late.1))

pub up_to : (due place other_due other_place : ℕ) → due ≤ other_due → (due ≡ other_due → place ≤ other_place) → IsUpTo due place other_due other_place
up_to due place other_due other_place early low = elim (cases_order due other_due) [
  | inl same ↦ inr (same, low same)
  | inr (inl less) ↦ inl less
  | inr (inr more) ↦ absurd (omega (arith, early, more))
]

pub due_up_to : (due place other_due other_place : ℕ) → IsUpTo due place other_due other_place → due ≤ other_due
due_up_to due place other_due other_place (inl early) = omega (arith, early)
due_up_to due place other_due other_place (inr same) = omega (arith, same.0)

-- a tick of the binding at `at` is later, by what counts there, exactly where it is behind
pub before_of : (due place other_due at : ℕ) → IsLater due (nat_lt place at) other_due → IsBefore due place other_due at
before_of due place other_due at (inl late) = inl late
before_of due place other_due at (inr same) = inr (same.0, grind (arith, nat_tests))

pub later_of : (due place other_due at : ℕ) → IsBefore due place other_due at → IsLater due (nat_lt place at) other_due
later_of due place other_due at (inl late) = inl late
later_of due place other_due at (inr same) = inr (same.0, grind (arith, nat_tests))

-- ---- the first tick behind another one

module _ (schedule : Schedule) (due place at : ℕ) (turn : Turn) (there : at < length schedule.periods) (is : IsFirstLater (period_at schedule at) schedule.start due (nat_lt place at) turn) where
  abbrev other : Pending
  other = record { place = at; number = turn.number; due = turn.due }

  -- the first tick of the binding there is not behind its others
  least_there : (number other_due : ℕ) → IsTick schedule at number other_due → IsBefore due place other_due at → turn.due ≤ other_due
  least_there number other_due tick behind =
      subst (λ d. turn.due ≤ d) (sym tick.due_is)
      (is.first number tick.counted (subst (λ d. IsLater due (nat_lt place at) d) tick.due_is (later_of due place other_due at behind)))

  other_is : (first : (other_place number other_due : ℕ) → other_place < at + 1 → IsTick schedule other_place number other_due → IsBefore due place other_due other_place → IsUpTo turn.due at other_due other_place)
      → IsFirstBelow schedule due place (at + 1) other
  other_is first = record {
    is = record { there = there; counted = is.counted; due_is = is.due_is };
    behind = before_of due place turn.due at is.later;
    among = omega arith;
    near = is.near;
    first = first;
  }

  -- the tick is of this binding or of one before
  at_or_below : (P : ℕ → Type 0) (other_place : ℕ) → other_place < at + 1 → P at → (other_place < at → P other_place) → P other_place
  at_or_below P other_place low here below = elim (cases_lt other_place at) [
    | inl less ↦ below less
    | inr more ↦ let same : at ≡ other_place = omega (arith, low, more) in subst P same here
  ]

  pub one_more : (found next : Option Pending) → IsFoundBelow schedule due place at found → IsEarlier found other next → IsFoundBelow schedule due place (at + 1) next
  one_more None next none earlier =
      subst (λ n. IsFoundBelow schedule due place (at + 1) n) (sym earlier)
      (other_is (λ other_place number other_due low tick behind.
      let same : other_place ≡ at = omega (arith, low, none) in
      let moved = subst (λ p. IsTick schedule p number other_due) same tick in
      up_to turn.due at other_due other_place (least_there number other_due moved (subst (λ p. IsBefore due place other_due p) same behind)) (λ e. omega (arith, same))))
  one_more (Some tick) next found (inl kept) =
      subst (λ n. IsFoundBelow schedule due place (at + 1) n) (sym kept.1)
      (record {
        is = found.is;
        behind = found.behind;
        among = omega (arith, found.among);
        near = found.near;
        first = λ other_place number other_due low other_tick behind. at_or_below
            (λ p. IsTick schedule p number other_due → IsBefore due place other_due p → IsUpTo tick.due tick.place other_due p) other_place low
            (λ t b. let least = least_there number other_due t b in up_to tick.due tick.place other_due at (omega (arith, kept.0, least)) (λ e. omega (arith, found.among)))
            (λ less t b. found.first other_place number other_due less t b) other_tick behind;
      })
  one_more (Some tick) next found (inr taken) =
      subst (λ n. IsFoundBelow schedule due place (at + 1) n) (sym taken.1)
      (other_is (λ other_place number other_due low other_tick behind. at_or_below
      (λ p. IsTick schedule p number other_due → IsBefore due place other_due p → IsUpTo turn.due at other_due p) other_place low
      (λ t b. up_to turn.due at other_due at (least_there number other_due t b) (λ e. omega arith))
      (λ less t b. let up = due_up_to tick.due tick.place other_due other_place (found.first other_place number other_due less t b) in inl (omega (arith, taken.0, up))) other_tick behind))

-- ---- the start

-- a tick is due a second behind the start at least
pub is_later : (schedule : Schedule) (place number due : ℕ) → All IsPeriod schedule.periods → IsTick schedule place number due → schedule.start < due
is_later schedule place number due each tick =
    let period = All-get_or IsPeriod schedule.periods place 0 tick.there each in
    let some : 1 * 1000 ≤ number * period_at schedule place = mul-le-mul tick.counted period.least in
    omega (arith, some, tick.due_is)

pub none_before : (schedule : Schedule) (next : Option Pending) (place number due : ℕ) → All IsPeriod schedule.periods → IsTick schedule place number due → IsFollowing schedule schedule.start 0 next
    → IsBehind next due place → ⊥
none_before schedule None place number due each tick follows behind = behind
none_before schedule (Some next) place number due each tick follows behind =
    not_both next.due next.place due place (follows.first place number due tick.there tick (inl (is_later schedule place number due each tick))) behind
