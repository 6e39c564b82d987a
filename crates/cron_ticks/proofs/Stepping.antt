-- What an answer does: what is kept, and the step that it is.
use Rattle.std.proofs.Common.{◌≡◌, ◌↔◌, ◌≤◌, ◌<◌, ◌^◌, ◌+◌, ◌*◌, ◌⊎◌, inl, inr, ℕ, suc, max, List, [], ◌∷◌, ◌++◌, All, length, Option, Some, None, arith, refl, sym, ap, subst, ◌∙◌, fold, length-append}
use Rattle.std.proofs.Math.Nat.{mul-le-mul_right, suc-mul}
use Rattle.std.proofs.lemmas.Bool.{cases_order}
use Rattle.std.proofs.lemmas.List.{nil_from_length}
use Rattle.std.proofs.lemmas.List.Sums.{fold-append}
use Rattle.std.proofs.lemmas.List.Elements.{All-get_or}
use Rattle.turn_cell.specs.declared.entry.Entry.{Entry}
use Rattle.cron_ticks.specs.declared.command.TicksCmd.{TicksCmd}
use Rattle.cron_ticks.specs.declared.command.TicksReply.{TicksReply}
use Rattle.cron_ticks.specs.declared.command.TicksReply.TheVariants.{Tick, Idle}
use Rattle.cron_ticks.specs.declared.following.Pending.{Pending}
use Rattle.cron_ticks.specs.declared.ticks.Ticks.{Ticks}
use Rattle.cron_ticks.specs.Schedule.{Step, Schedule, IsPeriod, IsTick, period_at, moment_of}
use Rattle.cron_ticks.specs.Course.{IsUpTo, Gives, Took, Answers, IsStep, moment_in}
use Rattle.cron_ticks.specs.Following.{schedule, IsBefore, IsFollowing, IsAnswered, IsBehind}
use Rattle.cron_ticks.specs.Kept.{IsSoon, IsBounded, IsFresh}
use Rattle.cron_ticks.specs.Ticks.{Stands, schedule_of}
use Rattle.cron_ticks.proofs.Order.{not_both, due_up_to, none_before, is_later}

-- ---- what is kept

some_is : {X : Type 0} (x y : X) → Some x ≡ Some y → x ≡ y
some_is x y e = cc

pub first_kept : (periods : List ℕ) (start : ℕ) (next : Option Pending) → All IsPeriod periods → length periods < 2 ^ 32 → start < 253402300800000 → IsFollowing (schedule periods start) start 0 next
    → IsBounded periods start start next × IsFresh periods start start 0 next
first_kept periods start None each few moment follows = (
  record { each = each; few = few; begun = omega arith; moment = moment; soon = λ x e. absurd (let bad : ⊥ = cc in bad); none = λ e. follows },
  record { latest_is = λ e. refl; next_is = λ e place number due tick behind. behind },
)
first_kept periods start (Some next) each few moment follows = (
  record {
    each = each;
    few = few;
    begun = omega arith;
    moment = moment;
    soon = λ x e. subst (IsSoon periods start start) (some_is next x e) (record { is = follows.is; near = follows.near });
    none = λ e. absurd (let bad : ⊥ = cc in bad);
  },
  record { latest_is = λ e. refl; next_is = λ e place number due tick. none_before (schedule periods start) (Some next) place number due each tick follows },
)

follows_kept : (periods : List ℕ) (start latest now due place : ℕ) (next : Option Pending) → All IsPeriod periods → length periods < 2 ^ 32 → start ≤ now → now < 253402300800000 → due ≤ now
    → IsFollowing (schedule periods start) due place next → IsBounded periods start now next
follows_kept periods start latest now due place None each few begun moment ripe follows =
    record { each = each; few = few; begun = begun; moment = moment; soon = λ x e. absurd (let bad : ⊥ = cc in bad); none = λ e. follows }
follows_kept periods start latest now due place (Some next) each few begun moment ripe follows = record {
  each = each;
  few = few;
  begun = begun;
  moment = moment;
  soon = λ x e. subst (IsSoon periods start now) (some_is next x e) (record { is = follows.is; near = omega (arith, follows.near, ripe) });
  none = λ e. absurd (let bad : ⊥ = cc in bad);
}

later_kept : (periods : List ℕ) (start latest now : ℕ) (next : Option Pending) → IsBounded periods start latest next → latest ≤ now → now < 253402300800000 → IsBounded periods start now next
later_kept periods start latest now next old later moment = record {
  each = old.each;
  few = old.few;
  begun = omega (arith, old.begun, later);
  moment = moment;
  soon = λ x e. let soon = old.soon x e in record { is = soon.is; near = omega (arith, soon.near, later) };
  none = old.none;
}

pub answered_kept : (periods : List ℕ) (start latest now : ℕ) (next after : Option Pending) (reply : TicksReply) → IsBounded periods start latest next → latest ≤ now → now < 253402300800000
    → IsAnswered (schedule periods start) next now (reply, after) → IsBounded periods start now after
answered_kept periods start latest now None after reply old later moment answered =
    subst (IsBounded periods start now) (sym answered.1) (later_kept periods start latest now None old later moment)
answered_kept periods start latest now (Some tick) after reply old later moment (inl given) =
    follows_kept periods start latest now tick.due tick.place after old.each old.few (omega (arith, old.begun, later)) moment given.0 given.2
answered_kept periods start latest now (Some tick) after reply old later moment (inr idle) =
    subst (IsBounded periods start now) (sym idle.2) (later_kept periods start latest now (Some tick) old later moment)

-- ---- what a history has taken

pub took_more : (history : List Step) (entry : Step) (place number : ℕ) → Took (history ++ entry ∷ []) place number → Took history place number ⊎ Gives entry.reply place number
took_more [] entry place number (inl gives) = inr gives
took_more [] entry place number (inr took) = absurd took
took_more (first ∷ history) entry place number (inl gives) = inl (inl gives)
took_more (first ∷ history) entry place number (inr took) = elim (took_more history entry place number took) [
  | inl before ↦ inl (inr before)
  | inr gives ↦ inr gives
]

pub took_before : (history : List Step) (entry : Step) (place number : ℕ) → Took history place number → Took (history ++ entry ∷ []) place number
took_before [] entry place number took = absurd took
took_before (first ∷ history) entry place number (inl gives) = inl gives
took_before (first ∷ history) entry place number (inr took) = inr (took_before history entry place number took)

pub took_now : (history : List Step) (entry : Step) (place number : ℕ) → Gives entry.reply place number → Took (history ++ entry ∷ []) place number
took_now [] entry place number gives = inl gives
took_now (first ∷ history) entry place number gives = inr (took_now history entry place number gives)

-- ---- ticks of one binding

-- a later tick is due a period later at least
pub grows : (period one other : ℕ) → one < other → one * period + period ≤ other * period
grows period one other less =
    let more : suc one * period ≤ other * period = mul-le-mul_right period less in
    omega (arith, more, suc-mul one period)

pub one_number : (schedule : Schedule) (place one other due : ℕ) → All IsPeriod schedule.periods → IsTick schedule place one due → IsTick schedule place other due → one ≡ other
one_number schedule place one other due each is also =
    let period = All-get_or IsPeriod schedule.periods place 0 is.there each in
    elim (cases_order one other) [
      | inl same ↦ same
      | inr (inl less) ↦ absurd (omega (arith, grows (period_at schedule place) one other less, is.due_is, also.due_is, period.least))
      | inr (inr more) ↦ absurd (omega (arith, grows (period_at schedule place) other one more, is.due_is, also.due_is, period.least))
    ]

-- ---- the order of ticks

before_trans : (a p b q d r : ℕ) → IsBefore a p b q → IsBefore b q d r → IsBefore a p d r
before_trans a p b q d r (inl one) (inl two) = inl (omega (arith, one, two))
before_trans a p b q d r (inl one) (inr two) = inl (omega (arith, one, two.0))
before_trans a p b q d r (inr one) (inl two) = inl (omega (arith, one.0, two))
before_trans a p b q d r (inr one) (inr two) = inr (one.0 ∙ two.0, omega (arith, one.1, two.1))

-- before, the same, or behind
data Order (a p b q : ℕ) : Type 0 where
  comes_before : IsBefore a p b q → Order a p b q
  stands_same : a ≡ b → p ≡ q → Order a p b q
  comes_behind : IsBefore b q a p → Order a p b q

by_places : (a p b q : ℕ) → a ≡ b → Order a p b q
by_places a p b q e = elim (cases_order p q) [
  | inl s ↦ stands_same e s
  | inr (inl less) ↦ comes_before (inr (e, less))
  | inr (inr more) ↦ comes_behind (inr (sym e, more))
]

order : (a p b q : ℕ) → Order a p b q
order a p b q = elim (cases_order a b) [
  | inl e ↦ by_places a p b q e
  | inr (inl less) ↦ comes_before (inl less)
  | inr (inr more) ↦ comes_behind (inl more)
]

not_before : (a p b q : ℕ) → (IsBefore a p b q → ⊥) → IsUpTo b q a p
not_before a p b q never = elim (order a p b q) [
  | comes_before is ↦ absurd (never is)
  | stands_same e s ↦ inr (sym e, omega (arith, s))
  | comes_behind (inl less) ↦ inl less
  | comes_behind (inr low) ↦ inr (low.0, omega (arith, low.1))
]

-- ---- a step

module _ (s : Schedule) (each : All IsPeriod s.periods) (history : List Step) (now : ℕ) (entry : Step) where
  -- what was taken is what comes before this tick
  abbrev pub Taken : List Step → Option Pending → Type 0
  Taken entries next = (place number due : ℕ) → IsTick s place number due → Took entries place number ↔ IsBehind next due place

  abbrev pub After : TicksReply → Option Pending → Type 0
  After reply after = Answers s history now reply × Taken (history ++ entry ∷ []) after

  -- an answer that gives no tick takes none
  idle_takes : (next : Option Pending) (due : Option ℕ) → entry.reply ≡ Idle due → Taken history next → Taken (history ++ entry ∷ []) next
  idle_takes next due idle taken = λ place number d tick. (
    (λ took. elim (took_more history entry place number took) [
      | inl before ↦ (taken place number d tick).0 before
      | inr gives ↦ absurd (subst (λ r. Gives r place number) idle gives)
    ]),
    (λ is. took_before history entry place number ((taken place number d tick).1 is)),
  )

  no_bindings : length s.periods ≡ 0 → entry.reply ≡ Idle None → Taken history None → Answers s history now (Idle None) × Taken (history ++ entry ∷ []) None
  no_bindings none idle taken = (
    record { none = λ place number due tick free. absurd (omega (arith, tick.there, none)); next_is = nil_from_length s.periods none },
    idle_takes None None idle taken,
  )

  module _ (tick : Pending) (is : IsTick s tick.place tick.number tick.due) (taken : Taken history (Some tick)) where
    this_is_free : Took history tick.place tick.number → ⊥
    this_is_free took = not_both tick.due tick.place tick.due tick.place (inr (refl, omega arith)) ((taken tick.place tick.number tick.due is).0 took)

    others : (place number due : ℕ) → IsTick s place number due → (Took history place number → ⊥) → IsUpTo tick.due tick.place due place
    others place number due other free = not_before due place tick.due tick.place (λ is_before. free ((taken place number due other).1 is_before))

    pub waits : now < tick.due → entry.reply ≡ Idle (Some tick.due) → Answers s history now (Idle (Some tick.due)) × Taken (history ++ entry ∷ []) (Some tick)
    waits early idle = (
      record {
        none = λ place number due other free. omega (arith, early, due_up_to tick.due tick.place due place (others place number due other free));
        next_is = record {
          place = tick.place;
          number = tick.number;
          tick = is;
          free = this_is_free;
          least = λ place number due other free. due_up_to tick.due tick.place due place (others place number due other free);
        };
      },
      idle_takes (Some tick) (Some tick.due) idle taken,
    )

    abbrev reply : TicksReply
    reply = Tick tick.place tick.number tick.due

    same_due : (place number due : ℕ) → IsTick s place number due → tick.place ≡ place → tick.number ≡ number → due ≡ tick.due
    same_due place number due other p n = other.due_is ∙ sym (subst (λ q. tick.due ≡ s.start + number * period_at s q) p (subst (λ m. tick.due ≡ s.start + m * period_at s tick.place) n is.due_is))

    gives_taken : (next : Pending) → IsFollowing s tick.due tick.place (Some next) → entry.reply ≡ reply → Taken (history ++ entry ∷ []) (Some next)
    gives_taken next follows given = λ place number due other. (
      (λ took. elim (took_more history entry place number took) [
        | inl before ↦ before_trans due place tick.due tick.place next.due next.place ((taken place number due other).0 before) follows.behind
        | inr gives ↦
            let g = subst (λ r. Gives r place number) given gives in
            subst (λ d. IsBefore d place next.due next.place) (sym (same_due place number due other g.0 g.1)) (subst (λ p. IsBefore tick.due p next.due next.place) g.0 follows.behind)
      ]),
      (λ is_before. elim (order due place tick.due tick.place) [
        | comes_before b ↦ took_before history entry place number ((taken place number due other).1 b)
        | stands_same e p ↦
            let here = subst (λ d. IsTick s place number d) e other in
            let there = subst (λ q. IsTick s q tick.number tick.due) (sym p) is in
            took_now history entry place number (subst (λ r. Gives r place number) (sym given) (sym p, one_number s place tick.number number tick.due each there here))
        | comes_behind b ↦ absurd (not_both next.due next.place due place (follows.first place number due other.there other b) is_before)
      ]),
    )

    pub gives : (after : Option Pending) → tick.due ≤ now → IsFollowing s tick.due tick.place after → entry.reply ≡ reply → After reply after
    gives None ripe follows given = absurd (omega (arith, follows, is.there))
    gives (Some next) ripe follows given = (
      record { tick = is; free = this_is_free; ripe = ripe; least = λ place number due other free early. others place number due other free },
      gives_taken next follows given,
    )

  pub made : (next after : Option Pending) (answer : TicksReply) → entry.reply ≡ answer → ((tick : Pending) → next ≡ Some tick → IsTick s tick.place tick.number tick.due)
      → (next ≡ None → length s.periods ≡ 0) → Taken history next → IsAnswered s next now (answer, after) → After answer after
  made None after answer is soon none taken answered =
      subst (λ r. After r after) (sym answered.0) (subst (λ a. After (Idle None) a) (sym answered.1) (no_bindings (none refl) (is ∙ answered.0) taken))
  made (Some tick) after answer is soon none taken (inl given) =
      subst (λ r. After r after) (sym given.1) (gives tick (soon tick refl) taken after given.0 given.2 (is ∙ given.1))
  made (Some tick) after answer is soon none taken (inr idle) =
      subst (λ r. After r after) (sym idle.1) (subst (λ a. After (Idle (Some tick.due)) a) (sym idle.2) (waits tick (soon tick refl) taken idle.0 (is ∙ idle.1)))

-- the moment behind one entry more
pub moment_more : (start : ℕ) (history : List Step) (entry : Step) → moment_in start (history ++ entry ∷ []) ≡ max (moment_in start history) (moment_of entry.cmd)
moment_more start history entry = fold-append (λ latest (e : Step). max latest (moment_of e.cmd)) start history (entry ∷ [])

pub stepped : (first : Ticks) (history : List Step) (seat : ℕ) (old new : Ticks) (cmd : TicksCmd) (now : ℕ) (reply : TicksReply) (after : Option Pending)
    → IsAnswered (schedule old.periods old.start) old.next now (reply, after) → Stands first history old → moment_of cmd < 253402300800000 → now ≡ max old.latest (moment_of cmd)
    → new.periods ≡ old.periods → new.start ≡ old.start → new.latest ≡ now → new.next ≡ after → new.used ≡ old.used + 1
    → IsStep (schedule_of first) history (record { seat = seat; cmd = cmd; reply = reply; mark = 0 }) × Stands first (history ++ record { seat = seat; cmd = cmd; reply = reply; mark = 0 } ∷ []) new
stepped first history seat old new cmd now reply after answered stands small is new_periods new_start new_latest new_next new_used =
    let entry : Step = record { seat = seat; cmd = cmd; reply = reply; mark = 0 } in
    let same : schedule old.periods old.start ≡ schedule_of first = ap (λ p. schedule p old.start) stands.periods ∙ ap (λ t. schedule first.periods t) stands.start in
    let each = subst (λ (s : Schedule). All IsPeriod s.periods) same old.bounded.each in
    let soon = λ (tick : Pending) (e : old.next ≡ Some tick). subst (λ s. IsTick s tick.place tick.number tick.due) same (old.bounded.soon tick e).is in
    let none = λ (e : old.next ≡ None). subst (λ (s : Schedule). length s.periods ≡ 0) same (old.bounded.none e) in
    let done = made (schedule_of first) each history now entry old.next after reply refl soon none stands.taken (subst (λ s. IsAnswered s old.next now (reply, after)) same answered) in
    let latest : now ≡ moment_in first.start (history ++ entry ∷ []) = is ∙ ap (λ n. max n (moment_of cmd)) stands.latest ∙ sym (moment_more first.start history entry) in (
      record { moment = small; reply = subst (λ n. Answers (schedule_of first) history n reply) latest done.0; mark = refl },
      record {
        periods = new_periods ∙ stands.periods;
        start = new_start ∙ stands.start;
        used = omega (arith, new_used, stands.used, length-append history (entry ∷ []));
        latest = new_latest ∙ latest;
        taken = subst (λ n. (place number due : ℕ) → IsTick (schedule_of first) place number due → Took (history ++ entry ∷ []) place number ↔ IsBehind n due place) (sym new_next) done.1;
      },
    )
