-- The course of a breaker: its generations, each with the entries of the history that fall into it.
use Rattle.std.specs.Prelude.{◌≡◌, ◌<◌, ◌+◌, ◌&&◌, ◌==◌, ℕ, Bool, true, false, not, nat_lt, max, List, [], ◌∷◌, length, filter, count_by, fold, Option, Some, None, if◌then◌else◌}
use Rattle.std.specs.List.{prefix_len}
use Rattle.retry_core.specs.declared.policy.BreakerPolicy.{BreakerPolicy}
use Rattle.retry_core.specs.declared.trip.Counts.{Counts}
use Rattle.retry_core.specs.Trip.{is_tripped}
use Rattle.turn_cell.specs.declared.entry.Entry.{Entry}
use Rattle.breaker_core.specs.declared.command.BreakerCmd.{BreakerCmd}
use Rattle.breaker_core.specs.declared.command.BreakerCmd.TheVariants.{Admit, Report}
use Rattle.breaker_core.specs.declared.command.BreakerReply.{BreakerReply}
use Rattle.breaker_core.specs.declared.command.BreakerReply.TheVariants.{Admitted, Opened, TooMany, Counted, Stale}
use Rattle.breaker_core.specs.declared.phase.Phase.{Phase}
use Rattle.breaker_core.specs.declared.phase.Phase.TheVariants.{Closed, Open, HalfOpen}

-- an entry of a breaker's history
abbrev pub Step : Type 0
Step = Entry BreakerCmd BreakerReply

abbrev pub moment_of : BreakerCmd → ℕ
moment_of (Admit now) = now
moment_of (Report generation now good) = now

-- a stretch of the history in one phase, from a moment on; its entries, the latest first
pub record Generation : Type 0 where
  pub phase : Phase
  pub start : ℕ
  pub entries : List Step

-- the greatest moment so far, and the generations, the present one first; a generation's number is how many came before it
pub record Course : Type 0 where
  pub latest : ℕ
  pub generations : List Generation

-- ---- what the entries of a generation count

abbrev pub is_admitted : BreakerReply → Bool
is_admitted (Admitted generation half) = true
is_admitted (Opened until) = false
is_admitted (TooMany out) = false
is_admitted Counted = false
is_admitted (Stale current) = false

abbrev pub is_counted : BreakerReply → Bool
is_counted Counted = true
is_counted (Admitted generation half) = false
is_counted (Opened until) = false
is_counted (TooMany out) = false
is_counted (Stale current) = false

abbrev pub says_good : BreakerCmd → Bool
says_good (Admit now) = false
says_good (Report generation now good) = good

abbrev pub is_admission : Step → Bool
is_admission entry = is_admitted entry.reply

abbrev pub is_report : Step → Bool
is_report entry = is_counted entry.reply

abbrev pub is_good : Step → Bool
is_good entry = is_counted entry.reply && says_good entry.cmd

abbrev pub is_failing : Step → Bool
is_failing entry = is_counted entry.reply && not (says_good entry.cmd)

-- the admissions, the failing reports, and the length of the last stretch of failing reports
abbrev pub counts_of : List Step → Counts
counts_of entries = record {
  consecutive_failures = prefix_len is_failing (filter is_report entries);
  requests = count_by is_admission entries;
  total_failures = count_by is_failing entries;
}

-- ---- how generations follow one another

abbrev pub begun : Phase → ℕ → Generation
begun phase start = record { phase = phase; start = start; entries = [] }

-- whether a generation ends before a command at a moment: a closed one after its interval, where it has one, and an open one
-- after its last moment
abbrev pub over_in : BreakerPolicy → ℕ → ℕ → Phase → Bool
over_in policy now start Closed = not (policy.interval_ms == 0) && nat_lt (start + policy.interval_ms) now
over_in policy now start (Open until) = nat_lt until now
over_in policy now start HalfOpen = false

abbrev pub is_over : BreakerPolicy → ℕ → Generation → Bool
is_over policy now g = over_in policy now g.start g.phase

-- and the phase of the one that follows then
abbrev pub phase_after : Phase → Phase
phase_after Closed = Closed
phase_after (Open until) = HalfOpen
phase_after HalfOpen = HalfOpen

-- the generations as a command at a moment finds them; the first command begins the first one
abbrev pub found : BreakerPolicy → ℕ → List Generation → List Generation
found policy now [] = begun Closed now ∷ []
found policy now (g ∷ gs) = if is_over policy now g then begun (phase_after g.phase) now ∷ g ∷ gs else g ∷ gs

-- the phase that an entry leads to, where it ends its generation; `entries` has it already
abbrev pub led_to : BreakerPolicy → ℕ → Phase → List Step → Step → Option Phase
led_to policy now Closed entries entry =
    if is_failing entry && is_tripped policy.trip (counts_of entries) then Some (Open (now + policy.timeout_ms)) else None
led_to policy now (Open until) entries entry = None
led_to policy now HalfOpen entries entry =
    if is_failing entry then Some (Open (now + policy.timeout_ms))
    else (if is_good entry && (count_by is_good entries == policy.max_requests) then Some Closed else None)

abbrev pub followed : ℕ → Option Phase → List Generation → List Generation
followed now None gs = gs
followed now (Some phase) gs = begun phase now ∷ gs

-- the generations after an entry
abbrev pub added : BreakerPolicy → ℕ → Step → List Generation → List Generation
added policy now entry [] = []
added policy now entry (g ∷ gs) =
    followed now (led_to policy now g.phase (entry ∷ g.entries) entry) (record { phase = g.phase; start = g.start; entries = entry ∷ g.entries } ∷ gs)

abbrev pub now_in : Course → BreakerCmd → ℕ
now_in course cmd = max course.latest (moment_of cmd)

abbrev pub course_after : BreakerPolicy → Course → Step → Course
course_after policy course entry = record {
  latest = now_in course entry.cmd;
  generations = added policy (now_in course entry.cmd) entry (found policy (now_in course entry.cmd) course.generations);
}

-- the course of a history
abbrev pub course_of : BreakerPolicy → List Step → Course
course_of policy history = fold (course_after policy) (record { latest = 0; generations = [] }) history

-- ---- the reply to a command

-- in a generation of this number, as the command finds it
abbrev pub reply_in : BreakerPolicy → Phase → List Step → ℕ → BreakerCmd → BreakerReply
reply_in policy Closed entries number (Admit now) = Admitted number false
reply_in policy (Open until) entries number (Admit now) = Opened until
reply_in policy HalfOpen entries number (Admit now) =
    if count_by is_admission entries == policy.max_requests then TooMany (count_by is_admission entries) else Admitted number true
reply_in policy phase entries number (Report generation now good) = if generation == number then Counted else Stale number

abbrev pub reply_of : BreakerPolicy → List Generation → BreakerCmd → BreakerReply
reply_of policy [] cmd = Stale 0
reply_of policy (g ∷ gs) cmd = reply_in policy g.phase g.entries (length gs) cmd

-- after a history
abbrev pub reply_to : BreakerPolicy → List Step → BreakerCmd → BreakerReply
reply_to policy history cmd =
    reply_of policy (found policy (now_in (course_of policy history) cmd) (course_of policy history).generations) cmd

-- an entry may come after a history; each moment is before the year 10000
pub record IsStep (policy : BreakerPolicy) (history : List Step) (entry : Step) : Type 0 where
  pub moment : moment_of entry.cmd < 253402300800000
  pub reply : entry.reply ≡ reply_to policy history entry.cmd
  pub mark : entry.mark ≡ 0
