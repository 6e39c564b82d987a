-- The reply to a command after a history.
use Rattle.std.specs.Prelude.{◌≡◌, ◌<◌, ◌≤◌, ℕ, ◌+◌, ◌-◌, Bool, true, false, List, ◌∷◌, length, Option, Some, None}
use Rattle.std.specs.Ordering.{is_gt}
use Rattle.retry_core.specs.declared.policy.RetryPolicy.{RetryPolicy}
use Rattle.retry_core.specs.declared.run.Next.{Next}
use Rattle.retry_core.specs.declared.run.Next.TheVariants.{Wait, GiveUp}
use Rattle.retry_core.specs.RetryPolicy.{decided}
use Rattle.ledger_core.specs.declared.plan.Aim.{Aim}
use Rattle.ledger_core.specs.declared.plan.Plan.{Plan}
use Rattle.ledger_core.specs.declared.command.Finish.{Finish}
use Rattle.ledger_core.specs.declared.command.Finish.TheVariants as ended
use Rattle.ledger_core.specs.declared.command.LedgerCmd.{LedgerCmd}
use Rattle.ledger_core.specs.declared.command.LedgerCmd.TheVariants.{Accept, Take, Settle, Counts}
use Rattle.ledger_core.specs.declared.reply.Reason.TheVariants as reason
use Rattle.ledger_core.specs.declared.reply.LedgerReply.{LedgerReply}
use Rattle.ledger_core.specs.declared.reply.LedgerReply.TheVariants as says
use Rattle.ledger_core.specs.Place.{place_order}
use Rattle.ledger_core.specs.Plan.{plan_at}
use Rattle.ledger_core.specs.Size.{exceeds, new_rows, new_bytes}
use Rattle.ledger_core.specs.Standing.{Standing}
use Rattle.ledger_core.specs.Course.{Course, count_of, is_owed, is_done, is_dropped, is_dead, rows_in, row_bytes, bytes_in, standing_at, is_waiting, is_ready, held_at, place_of}

-- Rows and bytes that exceed a limit are refused, and told. Else the reply is one that `done` allows, or there is no memory for it
abbrev pub IsSized : ℕ → ℕ → (LedgerReply → Type 0) → LedgerReply → Type 0
IsSized rows bytes done (says.Full r b) = (exceeds rows bytes ≡ true) × (r ≡ rows) × (b ≡ bytes)
IsSized rows bytes done says.NoMemory = exceeds rows bytes ≡ false
IsSized rows bytes done reply = (exceeds rows bytes ≡ false) × done reply

-- the next message, accepted, or made of a dead letter
abbrev pub IsAcceptedAs : ℕ → LedgerReply → Type 0
IsAcceptedAs next (says.Accepted number) = number ≡ next
IsAcceptedAs next reply = ⊥

abbrev pub IsDeadAs : ℕ → LedgerReply → Type 0
IsDeadAs next (says.Dead number) = number ≡ next
IsDeadAs next reply = ⊥

abbrev pub IsAccepted : Course → List ℕ → List Aim → LedgerReply → Type 0
IsAccepted course event aims reply =
    IsSized (rows_in course.book + new_rows aims) (bytes_in course.book + new_bytes (length event) aims) (IsAcceptedAs (course.made + 1)) reply

-- ---- taking

-- of the rows that are ready, the first by due, message and subscription
pub record IsFirst (book : List Standing) (now : ℕ) (s : Standing) : Type 0 where
  pub there : standing_at s.pair.no s.pair.sub book ≡ Some s
  pub ready : is_ready now s ≡ true
  pub first : (number sub : ℕ) (t : Standing) → standing_at number sub book ≡ Some t → is_ready now t ≡ true → is_gt (place_order (place_of s) (place_of t)) ≡ false

-- the first ready row is given out under the next claim
pub record IsHanded (course : Course) (now number sub claim : ℕ) (event path : List ℕ) (attempt : ℕ) : Type 0 where
  pub row : Standing
  pub is_first : IsFirst course.book now row
  pub no_is : number ≡ row.pair.no
  pub sub_is : sub ≡ row.pair.sub
  pub claim_is : claim ≡ course.claims + 1
  pub event_is : event ≡ row.pair.event
  pub path_is : row.pair.path ≡ Some path
  pub attempt_is : attempt ≡ length row.words + 1

-- the least due moment of the rows that wait
abbrev pub IsNext : List Standing → Option ℕ → Type 0
IsNext book None = (number sub : ℕ) (t : Standing) → standing_at number sub book ≡ Some t → is_waiting t ≡ true → ⊥
IsNext book (Some due) =
    ((s : Standing) × (standing_at s.pair.no s.pair.sub book ≡ Some s) × (is_waiting s ≡ true) × (s.due ≡ due))
    × ((number sub : ℕ) (t : Standing) → standing_at number sub book ≡ Some t → is_waiting t ≡ true → due ≤ t.due)

-- no row is ready
pub record IsIdle (book : List Standing) (now : ℕ) (next : Option ℕ) : Type 0 where
  pub idle : (number sub : ℕ) (t : Standing) → standing_at number sub book ≡ Some t → is_ready now t ≡ true → ⊥
  pub next_is : IsNext book next

abbrev pub IsTaken : Course → ℕ → LedgerReply → Type 0
IsTaken course now (says.Taken number sub claim event path attempt) = IsHanded course now number sub claim event path attempt
IsTaken course now (says.Idle next) = IsIdle course.book now next
IsTaken course now says.NoMemory = (s : Standing) × IsFirst course.book now s
IsTaken course now reply = ⊥

-- ---- settling

-- a row goes to its dead-letter topic: as a new message, unless it went there 8 times or the ledger is full without the row and
-- with the message
pub record IsBuried (course : Course) (s : Standing) (aims : List Aim) (reply : LedgerReply) : Type 0 where
  pub hops : 8 ≤ s.pair.hops → reply ≡ says.Dropped reason.Hops
  pub sized : s.pair.hops < 8 → IsSized ((rows_in course.book - 1) + new_rows aims) ((bytes_in course.book - row_bytes s) + new_bytes (length s.pair.event) aims) (IsDeadAs (course.made + 1)) reply

-- a row that gets no further attempt goes to its dead-letter topic, if it has one
abbrev pub IsGivenUp : Course → Bool → Standing → List Aim → LedgerReply → Type 0
IsGivenUp course false s aims reply = reply ≡ says.Dropped reason.UsedUp
IsGivenUp course true s aims reply = IsBuried course s aims reply

-- as the policy decides
abbrev pub IsAsDecided : Course → Next → Bool → Standing → ℕ → List Aim → LedgerReply → Type 0
IsAsDecided course (Wait ms) dead s now aims reply = reply ≡ says.Again (now + ms)
IsAsDecided course (GiveUp attempts) dead s now aims reply = IsGivenUp course dead s aims reply

-- by the words of the attempts that were made again, and this one
abbrev pub IsRetriedBy : Course → Option RetryPolicy → Bool → Standing → ℕ → ℕ → List Aim → LedgerReply → Type 0
IsRetriedBy course None false s now word aims reply = reply ≡ says.Again (now + 1000)
IsRetriedBy course None true s now word aims reply = IsBuried course s aims reply
IsRetriedBy course (Some policy) dead s now word aims reply = IsAsDecided course (decided policy (word ∷ s.words)) dead s now aims reply

abbrev pub IsRetried : Course → Plan → Standing → ℕ → ℕ → List Aim → LedgerReply → Type 0
IsRetried course plan s now word aims reply = IsRetriedBy course plan.retry plan.dead s now word aims reply

abbrev pub IsSettled : List Plan → Course → Option Standing → Finish → ℕ → ℕ → List Aim → LedgerReply → Type 0
IsSettled plans course None finish now word aims reply = reply ≡ says.NotTaken
IsSettled plans course (Some s) ended.Success now word aims reply = reply ≡ says.Done
IsSettled plans course (Some s) ended.Drop now word aims reply = reply ≡ says.Dropped reason.Asked
IsSettled plans course (Some s) (ended.Later at) now word aims reply = reply ≡ says.Again at
IsSettled plans course (Some s) ended.Retry now word aims reply = IsRetried course (plan_at plans s.pair.sub) s now word aims reply

-- ---- all commands

abbrev pub IsReply : List Plan → Course → LedgerCmd → LedgerReply → Type 0
IsReply plans course (Accept event aims now) reply = IsAccepted course event aims reply
IsReply plans course (Take now) reply = IsTaken course now reply
IsReply plans course (Settle number sub claim finish now word dead_aims) reply = IsSettled plans course (held_at claim number sub course.book) finish now word dead_aims reply
IsReply plans course Counts reply =
    reply ≡ says.Counts (count_of is_owed course.book) (count_of is_done course.book) (count_of is_dropped course.book) (count_of is_dead course.book)
