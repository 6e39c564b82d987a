-- Each reply fits its command.
use Rattle.std.proofs.Common.{◌≡◌, ◌≢◌, ◌+◌, ◌-◌, length, ℕ, Bool, true, false, List, ◌∷◌, Option, Some, None, sym, ap, subst, ◌∙◌, ⊎_elim}
use Rattle.std.proofs.lemmas.Bool.{cases_lt}
use Rattle.retry_core.specs.declared.policy.RetryPolicy.{RetryPolicy}
use Rattle.retry_core.specs.declared.run.Next.{Next}
use Rattle.retry_core.specs.declared.run.Next.TheVariants.{Wait, GiveUp}
use Rattle.retry_core.specs.RetryPolicy.{decided}
use Rattle.ledger_core.specs.declared.plan.Aim.{Aim}
use Rattle.ledger_core.specs.declared.plan.Plan.{Plan}
use Rattle.ledger_core.specs.declared.command.Finish.{Finish}
use Rattle.ledger_core.specs.declared.command.Finish.TheVariants as ended
use Rattle.ledger_core.specs.declared.command.LedgerCmd.{LedgerCmd}
use Rattle.ledger_core.specs.declared.command.LedgerCmd.TheVariants.{Accept, Take, Settle, Counts}
use Rattle.ledger_core.specs.declared.reply.Reason.TheVariants as reason
use Rattle.ledger_core.specs.declared.reply.LedgerReply.{LedgerReply}
use Rattle.ledger_core.specs.declared.reply.LedgerReply.TheVariants as says
use Rattle.ledger_core.specs.Plan.{plan_at}
use Rattle.ledger_core.specs.Size.{new_rows, new_bytes}
use Rattle.ledger_core.specs.Standing.{Standing}
use Rattle.ledger_core.specs.Course.{Course, held_at, rows_in, row_bytes, bytes_in}
use Rattle.ledger_core.specs.Reply.{IsReply, IsSized, IsAcceptedAs, IsDeadAs, IsTaken, IsSettled, IsRetriedBy, IsAsDecided, IsBuried}
use Rattle.ledger_core.specs.Fits.{FitsEnd, Fits}

-- what holds of each answer holds of the one that came
pub sized_to : (P done : LedgerReply → Type 0) (rows bytes : ℕ) (reply : LedgerReply) → IsSized rows bytes done reply → ((r b : ℕ) → P (says.Full r b)) → ((reply : LedgerReply) → done reply → P reply) → P says.NoMemory → P reply
sized_to P done rows bytes (says.Full r b) sized full is wanting = full r b
sized_to P done rows bytes says.NoMemory sized full is wanting = wanting
sized_to P done rows bytes reply sized full is wanting = is reply sized.1

accepted_to : (P : LedgerReply → Type 0) (next : ℕ) (reply : LedgerReply) → IsAcceptedAs next reply → ((number : ℕ) → P (says.Accepted number)) → P reply
accepted_to P next (says.Accepted number) is accepted = accepted number
accepted_to P next reply is accepted = absurd is

dead_to : (P : LedgerReply → Type 0) (next : ℕ) (reply : LedgerReply) → IsDeadAs next reply → ((number : ℕ) → P (says.Dead number)) → P reply
dead_to P next (says.Dead number) is dead = dead number
dead_to P next reply is dead = absurd is

not_asked : reason.Hops ≢ reason.Asked
not_asked e = cc

used_up_not_asked : reason.UsedUp ≢ reason.Asked
used_up_not_asked e = cc

-- what holds of each answer to a row that is buried
pub buried_to : (P : LedgerReply → Type 0) (course : Course) (s : Standing) (aims : List Aim) (reply : LedgerReply) → IsBuried course s aims reply
    → P (says.Dropped reason.Hops) → ((rows bytes : ℕ) → P (says.Full rows bytes)) → ((number : ℕ) → P (says.Dead number)) → P says.NoMemory → P reply
buried_to P course s aims reply is hops full dead wanting = ⊎_elim (λ lt. sized_to P (IsDeadAs (course.made + 1)) ((rows_in course.book - 1) + new_rows aims) ((bytes_in course.book - row_bytes s) + new_bytes (length s.pair.event) aims) reply (is.sized lt) full (λ r e. dead_to P (course.made + 1) r e dead) wanting) (λ le. subst P (sym (is.hops le)) hops) (cases_lt s.pair.hops 8)

-- what holds of each answer to a delivery that failed
pub retried_to : (P : LedgerReply → Type 0) (course : Course) (retry : Option RetryPolicy) (dead_too : Bool) (s : Standing) (now word : ℕ) (aims : List Aim) (reply : LedgerReply) → IsRetriedBy course retry dead_too s now word aims reply
    → ((at : ℕ) → P (says.Again at)) → P (says.Dropped reason.UsedUp) → P (says.Dropped reason.Hops) → ((rows bytes : ℕ) → P (says.Full rows bytes)) → ((number : ℕ) → P (says.Dead number)) → P says.NoMemory → P reply
retried_to P course None false s now word aims reply is again used hops full dead wanting = subst P (sym is) (again _)
retried_to P course None true s now word aims reply is again used hops full dead wanting = buried_to P course s aims reply is hops full dead wanting
retried_to P course (Some policy) dead_too s now word aims reply is again used hops full dead wanting = by_next (decided policy (word ∷ s.words)) dead_too is
  where
    by_next : (next : Next) (dead_too : Bool) → IsAsDecided course next dead_too s now aims reply → P reply
    by_next (Wait ms) dead_too is = subst P (sym is) (again _)
    by_next (GiveUp attempts) false is = subst P (sym is) used
    by_next (GiveUp attempts) true is = buried_to P course s aims reply is hops full dead wanting

fits_taken : (course : Course) (now : ℕ) (reply : LedgerReply) → IsTaken course now reply → Fits (Take now) reply
fits_taken course now (says.Taken number sub claim event path attempt) is = tt
fits_taken course now (says.Idle next) is = tt
fits_taken course now says.NoMemory is = tt
fits_taken course now reply is = is

pub fits_end : (plans : List Plan) (course : Course) (o : Option Standing) (finish : Finish) (now word : ℕ) (aims : List Aim) (reply : LedgerReply) → IsSettled plans course o finish now word aims reply → FitsEnd finish reply
fits_end plans course None finish now word aims reply is = subst (FitsEnd finish) (sym is) tt
fits_end plans course (Some s) ended.Success now word aims reply is = subst (FitsEnd ended.Success) (sym is) tt
fits_end plans course (Some s) ended.Drop now word aims reply is = subst (FitsEnd ended.Drop) (sym is) Rattle.std.proofs.Common.refl
fits_end plans course (Some s) (ended.Later at) now word aims reply is = subst (FitsEnd (ended.Later at)) (sym is) Rattle.std.proofs.Common.refl
fits_end plans course (Some s) ended.Retry now word aims reply is =
    retried_to (FitsEnd ended.Retry) course (plan_at plans s.pair.sub).retry (plan_at plans s.pair.sub).dead s now word aims reply is (λ at. tt) used_up_not_asked not_asked (λ rows bytes. tt) (λ number. tt) tt

pub fits : (plans : List Plan) (course : Course) (cmd : LedgerCmd) (reply : LedgerReply) → IsReply plans course cmd reply → Fits cmd reply
fits plans course (Accept event aims now) reply is = sized_to (Fits (Accept event aims now)) (IsAcceptedAs (course.made + 1)) (rows_in course.book + new_rows aims) (bytes_in course.book + new_bytes (length event) aims) reply is (λ r b. tt) (λ r e. accepted_to (Fits (Accept event aims now)) (course.made + 1) r e (λ number. tt)) tt
fits plans course (Take now) reply is = fits_taken course now reply is
fits plans course (Settle number sub claim finish now word aims) reply is = fits_end plans course (held_at claim number sub course.book) finish now word aims reply is
fits plans course Counts reply is = subst (Fits Counts) (sym is) tt
