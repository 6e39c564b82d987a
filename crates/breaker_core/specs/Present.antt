-- What a breaker keeps of its present generation.
use Rattle.std.specs.Prelude.{◌≡◌, ◌≤◌, ◌<◌, ◌+◌, ◌*◌, ◌^◌, ℕ, Bool, true, false, List, [], ◌∷◌, length, count_by, Option, Some, None, is_none}
use Rattle.std.specs.Option.{ForSome}
use Rattle.retry_core.specs.declared.policy.BreakerPolicy.{BreakerPolicy}
use Rattle.retry_core.specs.BreakerPolicy.{IsWithinLimit}
use Rattle.breaker_core.specs.declared.present.Present.{Present}
use Rattle.breaker_core.specs.declared.command.BreakerCmd.TheVariants.{Report}
use Rattle.breaker_core.specs.declared.command.BreakerReply.{BreakerReply}
use Rattle.breaker_core.specs.declared.command.BreakerReply.TheVariants.{Counted}
use Rattle.breaker_core.specs.declared.phase.Phase.{Phase}
use Rattle.breaker_core.specs.Course.{Generation, Step, counts_of, is_good, says_good, led_to, added}

-- the counters of a generation of this number
abbrev pub shown : Generation → ℕ → Present
shown g number = record {
  generation = number;
  phase = g.phase;
  start = g.start;
  counts = counts_of g.entries;
  good = count_by is_good g.entries;
}

-- of the present one; there is none before the first command
abbrev pub shown_of : List Generation → Option Present
shown_of [] = None
shown_of (g ∷ gs) = Some (shown g (length gs))

-- no counter is more than `most`, and the generation began at `latest` or before
pub record HasAtMost (most latest : ℕ) (present : Present) : Type 0 where
  pub start : present.start ≤ latest
  pub generation : present.generation ≤ most
  pub requests : present.counts.requests ≤ most
  pub failures : present.counts.total_failures ≤ most
  pub consecutive : present.counts.consecutive_failures ≤ most
  pub good : present.good ≤ most

-- no counter is near the end of its type
abbrev pub IsSmall : Present → Type 0
IsSmall present = HasAtMost (2 ^ 63) 253402300799999 present

-- a report was counted
abbrev pub WithReport : Present → Bool → Present → Type 0
WithReport before true after = after ≡ record before { counts = record before.counts { consecutive_failures = 0 }; good = before.good + 1 }
WithReport before false after = after ≡ record before { counts = record before.counts { consecutive_failures = before.counts.consecutive_failures + 1; total_failures = before.counts.total_failures + 1 } }

-- of a present generation a report at `now` is answered so, and this is present then: what the entry of the report leads to, whatever its seat and moment
abbrev pub IsReported : BreakerPolicy → ℕ → ℕ → Bool → Present → BreakerReply × Present → Type 0
IsReported policy now generation good before (reply, after) =
    (g : Generation) (gs : List Generation) (seat moment : ℕ) → before ≡ shown g (length gs)
    → Some after ≡ shown_of (added policy now (record { seat = seat; cmd = Report generation moment good; reply = reply; mark = 0 }) (g ∷ gs))

-- the phase is the one that a counted report leads to, of entries that the counters count with it
abbrev pub IsLedTo : BreakerPolicy → ℕ → Bool → Present → Option Phase → Type 0
IsLedTo policy now good present phase =
    (entries : List Step) (entry : Step) → present.counts ≡ counts_of entries → present.good ≡ count_by is_good entries
    → entry.reply ≡ Counted → says_good entry.cmd ≡ good → phase ≡ led_to policy now present.phase entries entry

-- what keeps the counters small after so many commands, up to this moment: each begins at most two generations
pub record IsBounded (policy : BreakerPolicy) (used latest : ℕ) (present : Option Present) : Type 0 where
  pub within : IsWithinLimit policy
  pub moment : latest < 253402300800000
  pub few : ForSome present (HasAtMost (2 * used) latest)

-- before the first command there is nothing
pub record IsFresh (used latest : ℕ) (present : Option Present) : Type 0 where
  pub latest_is : used ≡ 0 → latest ≡ 0
  pub present_is : used ≡ 0 → is_none present ≡ true
