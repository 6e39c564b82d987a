-- The last reply of a state call fits its command.
use Rattle.std.proofs.Common.{◌≡◌, ◌≢◌, ℕ, Bool, List, Option, Some, None, Result, refl, sym, subst}
use Rattle.std.specs.Prelude.{IfOk}
use Rattle.turn_cell.specs.declared.error.ApiErr.{ApiErr}
use Rattle.state_core.specs.declared.command.Item.{Item}
use Rattle.state_core.specs.declared.command.Cmd.{Cmd}
use Rattle.state_core.specs.declared.command.Cmd.TheVariants.{Get, Save, Delete, Bulk, Transact}
use Rattle.state_core.specs.declared.reply.Reply.{Reply}
use Rattle.state_core.specs.declared.reply.Reply.TheVariants.{Value, Absent, Saved, SomeRefused, Deleted, Mismatch, Rows, TooLong, Committed, Failed, Full, Spent, NoMemory}
use Rattle.state_core.specs.History.{Step}
use Rattle.state_core.specs.Moved.{at_moment}
use Rattle.state_core.specs.Fits.{Fits, IsGet, IsSave, IsDelete, IsBulk, IsTransact, MayWrite, MayStopAt}
use Rattle.retry_core.specs.declared.policy.RetryPolicy.{RetryPolicy}
use Rattle.policy_run.specs.declared.operation.Attempt.TheVariants as attempt
use Rattle.policy_run.specs.declared.outcome.Outcome.{Outcome}
use Rattle.policy_run.specs.declared.outcome.Outcome.TheVariants as outcomes
use Rattle.policy_run.specs.Event.{Event}
use Rattle.policy_run.specs.Attempts.{Attempted, Ends, GivesUp}
use Rattle.state_api.specs.declared.call.StateAnswer.{StateAnswer}
use Rattle.state_api.specs.declared.call.StateAnswer.TheVariants.{Replied, Exhausted}
use Rattle.state_api.specs.declared.running.Ran.{Ran}
use Rattle.state_api.specs.Ran.{ran_of, IsAnswer}
use Rattle.state_api.specs.Call.{Makes, stepped, exhausted, answer_of}

-- ---- which reply fits a command does not depend on its moment

module _ (now : ℕ) where
  is_get : (cmd : Cmd) → IsGet (at_moment now cmd) → IsGet cmd
  is_get (Get key old) h = h
  is_get (Save items old) h = h
  is_get (Delete key etag mode old) h = h
  is_get (Bulk keys skip old) h = h
  is_get (Transact ops old) h = h

  is_save : (P : List Item → Type 0) (cmd : Cmd) → IsSave P (at_moment now cmd) → IsSave P cmd
  is_save P (Get key old) h = h
  is_save P (Save items old) h = h
  is_save P (Delete key etag mode old) h = h
  is_save P (Bulk keys skip old) h = h
  is_save P (Transact ops old) h = h

  is_delete : (cmd : Cmd) → IsDelete (at_moment now cmd) → IsDelete cmd
  is_delete (Get key old) h = h
  is_delete (Save items old) h = h
  is_delete (Delete key etag mode old) h = h
  is_delete (Bulk keys skip old) h = h
  is_delete (Transact ops old) h = h

  may_stop : (place : ℕ) (cmd : Cmd) → MayStopAt place (at_moment now cmd) → MayStopAt place cmd
  may_stop place (Get key old) h = h
  may_stop place (Save items old) h = h
  may_stop place (Delete key etag mode old) h = h
  may_stop place (Bulk keys skip old) h = h
  may_stop place (Transact ops old) h = h

  is_bulk : (P : List (List ℕ) → Type 0) (cmd : Cmd) → IsBulk P (at_moment now cmd) → IsBulk P cmd
  is_bulk P (Get key old) h = h
  is_bulk P (Save items old) h = h
  is_bulk P (Delete key etag mode old) h = h
  is_bulk P (Bulk keys skip old) h = h
  is_bulk P (Transact ops old) h = h

  is_transact : (cmd : Cmd) → IsTransact (at_moment now cmd) → IsTransact cmd
  is_transact (Get key old) h = h
  is_transact (Save items old) h = h
  is_transact (Delete key etag mode old) h = h
  is_transact (Bulk keys skip old) h = h
  is_transact (Transact ops old) h = h

  may_write : (cmd : Cmd) → MayWrite (at_moment now cmd) → MayWrite cmd
  may_write (Get key old) h = h
  may_write (Save items old) h = h
  may_write (Delete key etag mode old) h = h
  may_write (Bulk keys skip old) h = h
  may_write (Transact ops old) h = h

  fits_at : (cmd : Cmd) (reply : Reply) → Fits (at_moment now cmd) reply → Fits cmd reply
  fits_at cmd (Value value version) h = is_get cmd h
  fits_at cmd Absent h = is_get cmd h
  fits_at cmd Saved h = is_save _ cmd h
  fits_at cmd (SomeRefused places) h = is_save _ cmd h
  fits_at cmd Deleted h = is_delete cmd h
  fits_at cmd (Mismatch place) h = may_stop place cmd h
  fits_at cmd (Rows rows) h = is_bulk _ cmd h
  fits_at cmd (TooLong len) h = is_bulk _ cmd h
  fits_at cmd Committed h = is_transact cmd h
  fits_at cmd Failed h = may_write cmd h
  fits_at cmd (Full len) h = may_write cmd h
  fits_at cmd (Spent next) h = may_write cmd h
  fits_at cmd NoMemory h = h

-- ---- the reply of an attempt

good_reply : (reply last : Reply) → attempt.Good (Replied last) ≡ answer_of reply → (last ≡ reply) × (reply ≢ NoMemory)
good_reply (Value value version) last is = (cc is, λ e. absurd (cc e))
good_reply Absent last is = (cc is, λ e. absurd (cc e))
good_reply Saved last is = (cc is, λ e. absurd (cc e))
good_reply (SomeRefused places) last is = (cc is, λ e. absurd (cc e))
good_reply Deleted last is = (cc is, λ e. absurd (cc e))
good_reply (Mismatch place) last is = (cc is, λ e. absurd (cc e))
good_reply (Rows rows) last is = (cc is, λ e. absurd (cc e))
good_reply (TooLong len) last is = (cc is, λ e. absurd (cc e))
good_reply Committed last is = (cc is, λ e. absurd (cc e))
good_reply Failed last is = absurd (cc is)
good_reply (Full len) last is = (cc is, λ e. absurd (cc e))
good_reply (Spent next) last is = (cc is, λ e. absurd (cc e))
good_reply NoMemory last is = absurd (cc is)

bad_reply : (reply : Reply) (bad : Unit {0}) → attempt.Bad bad ≡ answer_of reply → reply ≡ Failed
bad_reply (Value value version) bad is = absurd (cc is)
bad_reply Absent bad is = absurd (cc is)
bad_reply Saved bad is = absurd (cc is)
bad_reply (SomeRefused places) bad is = absurd (cc is)
bad_reply Deleted bad is = absurd (cc is)
bad_reply (Mismatch place) bad is = absurd (cc is)
bad_reply (Rows rows) bad is = absurd (cc is)
bad_reply (TooLong len) bad is = absurd (cc is)
bad_reply Committed bad is = absurd (cc is)
bad_reply Failed bad is = refl
bad_reply (Full len) bad is = absurd (cc is)
bad_reply (Spent next) bad is = absurd (cc is)
bad_reply NoMemory bad is = absurd (cc is)

good_fits : (cmd : Cmd) (last : Reply) (events : List (Event Step)) → Makes cmd (attempt.Good (Replied last)) events → Fits cmd last × (last ≢ NoMemory)
good_fits cmd last events (stepped now step asked fits answered is) = let same = good_reply step.reply last answered in
    (subst (λ r. Fits cmd r) (sym same.0) (fits_at now cmd step.reply (subst (λ z. Fits z step.reply) asked fits)), subst (λ r. r ≢ NoMemory) (sym same.0) same.1)
good_fits cmd last events (exhausted now count answered is) = absurd (cc answered)

bad_fits : (cmd : Cmd) (bad : Unit {0}) (events : List (Event Step)) → Makes cmd (attempt.Bad bad) events → Fits cmd Failed × (Failed ≢ NoMemory)
bad_fits cmd bad events (stepped now step asked fits answered is) =
    (subst (λ r. Fits cmd r) (bad_reply step.reply bad answered) (fits_at now cmd step.reply (subst (λ z. Fits z step.reply) asked fits)), λ e. absurd (cc e))
bad_fits cmd bad events (exhausted now count answered is) = absurd (cc answered)

gave_up : (there : Bool) (retry : Option RetryPolicy) (words : List ℕ) (cmd : Cmd) (bad : Unit {0}) (events : List (Event Step)) → GivesUp there (Makes cmd) retry words bad events → Fits cmd Failed × (Failed ≢ NoMemory)
gave_up there None words cmd bad events turn = bad_fits cmd bad turn.attempt turn.made
gave_up there (Some policy) words cmd bad events last = bad_fits cmd bad last.3.attempt last.3.made

-- ---- and so that of the call

ended_fits : (there : Bool) (retry : Option RetryPolicy) (words : List ℕ) (cmd : Cmd) (outcome : Outcome StateAnswer (Unit {0})) (events : List (Event Step)) → Ends there (Makes cmd) retry words outcome events → IfOk (ran_of outcome) (IsAnswer cmd)
ended_fits there retry words cmd (outcomes.Good (Replied reply)) events turn = good_fits cmd reply turn.attempt turn.made
ended_fits there retry words cmd (outcomes.Good (Exhausted count)) events turn = tt
ended_fits there retry words cmd (outcomes.Bad bad) events end = gave_up there retry words cmd bad events end
ended_fits there retry words cmd (outcomes.Refused refusal) events end = tt
ended_fits there retry words cmd (outcomes.Exhausted count) events end = tt
ended_fits there retry words cmd outcomes.NoMemory events end = tt

pub answer_fits : (there : Bool) (retry : Option RetryPolicy) (cmd : Cmd) (outcome : Outcome StateAnswer (Unit {0})) (events : List (Event Step)) (result : Result Ran ApiErr) → Attempted retry there (Makes cmd) outcome events → result ≡ ran_of outcome → IfOk result (IsAnswer cmd)
answer_fits there retry cmd outcome events result a is = subst (λ r. IfOk r (IsAnswer cmd)) (sym is) (ended_fits there retry a.words cmd outcome a.last a.ends)
