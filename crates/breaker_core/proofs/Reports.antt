-- What a counted report changes of the counters.
use Rattle.std.proofs.Common.{◌≡◌, ◌+◌, ℕ, Bool, true, false, List, ◌∷◌, length, count_by, filter, Option, Some, None, refl, ap, sym, subst, ◌∙◌, arith, cond}
use Rattle.std.specs.List.{prefix_len}
use Rattle.std.proofs.lemmas.List.Sums.{sum_by-cons}
use Rattle.retry_core.specs.declared.policy.BreakerPolicy.{BreakerPolicy}
use Rattle.breaker_core.specs.declared.command.BreakerCmd.TheVariants.{Report}
use Rattle.breaker_core.specs.declared.command.BreakerReply.TheVariants.{Counted}
use Rattle.breaker_core.specs.declared.phase.Phase.{Phase}
use Rattle.breaker_core.specs.declared.present.Present.{Present}
use Rattle.breaker_core.specs.Course.{Generation, Step, begun, counts_of, is_admission, is_report, is_failing, is_good, says_good, led_to, followed, added}
use Rattle.breaker_core.specs.Present.{shown, shown_of, HasAtMost, WithReport}

abbrev pub report : ℕ → ℕ → ℕ → Bool → Step
report seat generation moment good = record { seat = seat; cmd = Report generation moment good; reply = Counted; mark = 0 }

abbrev pub with_entry : Generation → Step → Generation
with_entry g entry = record { phase = g.phase; start = g.start; entries = entry ∷ g.entries }

-- the counters by their numbers
abbrev counters : Generation → ℕ → ℕ → ℕ → ℕ → Present
counters g number consecutive total good = record {
  generation = number;
  phase = g.phase;
  start = g.start;
  counts = record { consecutive_failures = consecutive; requests = count_by is_admission g.entries; total_failures = total };
  good = good;
}

-- the counters are those of the generation with the report
counted_is : (seat generation moment : ℕ) (good : Bool) (g : Generation) (number : ℕ) (before counted : Present) → before ≡ shown g number → WithReport before good counted → counted ≡ shown (with_entry g (report seat generation moment good)) number
counted_is seat generation moment true g number before counted is with =
    let goods : count_by is_good g.entries + 1 ≡ count_by is_good (report seat generation moment true ∷ g.entries) = omega (arith, sum_by-cons (λ x. cond (is_good x) 1 0) (report seat generation moment true) g.entries) in
    subst (λ (b : Present). WithReport b true counted) is with
    ∙ ap (counters g number 0 (count_by is_failing g.entries)) goods
counted_is seat generation moment false g number before counted is with =
    let failures : count_by is_failing g.entries + 1 ≡ count_by is_failing (report seat generation moment false ∷ g.entries) = omega (arith, sum_by-cons (λ x. cond (is_failing x) 1 0) (report seat generation moment false) g.entries) in
    let stretch : prefix_len is_failing (filter is_report g.entries) + 1 ≡ prefix_len is_failing (filter is_report (report seat generation moment false ∷ g.entries)) = omega arith in
    subst (λ (b : Present). WithReport b false counted) is with
    ∙ ap (λ (n : ℕ). counters g number (prefix_len is_failing (filter is_report g.entries) + 1) n (count_by is_good g.entries)) failures
    ∙ ap (λ (n : ℕ). counters g number n (count_by is_failing (report seat generation moment false ∷ g.entries)) (count_by is_good g.entries)) stretch

-- what is kept after a report that leads to a phase, or to none
abbrev pub Leads : Option Phase → ℕ → Present → Present → Type 0
Leads None now counted after = after ≡ counted
Leads (Some phase) now counted after = after ≡ shown (begun phase now) (counted.generation + 1)

leads_on : (led : Option Phase) (now : ℕ) (g : Generation) (gs : List Generation) (after : Present) → Leads led now (shown g (length gs)) after → Some after ≡ shown_of (followed now led (g ∷ gs))
leads_on None now g gs after leads = ap Some leads
leads_on (Some phase) now g gs after leads = ap Some (leads ∙ ap (shown (begun phase now)) (let e : length gs + 1 ≡ length (g ∷ gs) = omega arith in e))

pub after_report : (policy : BreakerPolicy) (now seat generation moment : ℕ) (good : Bool) (g : Generation) (gs : List Generation) (before counted after : Present) (led : Option Phase) → before ≡ shown g (length gs) → WithReport before good counted →
    ((entries : List Step) (entry : Step) → counted.counts ≡ counts_of entries → counted.good ≡ count_by is_good entries → entry.reply ≡ Counted → says_good entry.cmd ≡ good → led ≡ led_to policy now counted.phase entries entry) →
    Leads led now counted after → Some after ≡ shown_of (added policy now (report seat generation moment good) (g ∷ gs))
after_report policy now seat generation moment good g gs before counted after led is with leads_to leads =
    let same : counted ≡ shown (with_entry g (report seat generation moment good)) (length gs) = counted_is seat generation moment good g (length gs) before counted is with in
    let led_is : led ≡ led_to policy now g.phase (report seat generation moment good ∷ g.entries) (report seat generation moment good) =
    leads_to (report seat generation moment good ∷ g.entries) (report seat generation moment good) (ap (λ (p : Present). p.counts) same) (ap (λ (p : Present). p.good) same) refl refl
    ∙ ap (λ (p : Present). led_to policy now p.phase (report seat generation moment good ∷ g.entries) (report seat generation moment good)) same in
    leads_on led now (with_entry g (report seat generation moment good)) gs after (subst (λ (p : Present). Leads led now p after) same leads)
    ∙ ap (λ (o : Option Phase). shown_of (followed now o (with_entry g (report seat generation moment good) ∷ gs))) led_is

-- one report more is one more at most
pub few_counted : (most latest : ℕ) (good : Bool) (before counted : Present) → HasAtMost most latest before → WithReport before good counted → HasAtMost (most + 1) latest counted
few_counted most latest true before counted few with = subst (HasAtMost (most + 1) latest) (sym with) (record {
  start = few.start;
  generation = omega (arith, few.generation);
  requests = omega (arith, few.requests);
  failures = omega (arith, few.failures);
  consecutive = omega arith;
  good = omega (arith, few.good);
})
few_counted most latest false before counted few with = subst (HasAtMost (most + 1) latest) (sym with) (record {
  start = few.start;
  generation = omega (arith, few.generation);
  requests = omega (arith, few.requests);
  failures = omega (arith, few.failures);
  consecutive = omega (arith, few.consecutive);
  good = omega (arith, few.good);
})

-- what a counted report leads to is one more at most, too
pub few_begun : (most now : ℕ) (good : Bool) (before counted after : Present) (phase : Phase) → HasAtMost most now before → WithReport before good counted → after ≡ shown (begun phase now) (counted.generation + 1) → HasAtMost (most + 1) now after
few_begun most now true before counted after phase few with is = subst (HasAtMost (most + 1) now) (sym is) (record {
  start = omega arith;
  generation = omega (arith, few.generation, ap (λ (p : Present). p.generation) with);
  requests = omega arith;
  failures = omega arith;
  consecutive = omega arith;
  good = omega arith;
})
few_begun most now false before counted after phase few with is = subst (HasAtMost (most + 1) now) (sym is) (record {
  start = omega arith;
  generation = omega (arith, few.generation, ap (λ (p : Present). p.generation) with);
  requests = omega arith;
  failures = omega arith;
  consecutive = omega arith;
  good = omega arith;
})
