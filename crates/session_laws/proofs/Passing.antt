-- A command of a store of which nothing that the store holds stands in the way.
use Rattle.std.proofs.Common.{◌≡◌, ◌⊎◌, ℕ, Bool, true, false, nat_lt, List, [], ◌∷◌, Option, Some, None, inl, inr, sym, subst}
use Rattle.std.specs.Prelude.{if◌then◌else◌, map}
use Rattle.side_world.specs.Faults.{Rose}
use Rattle.keeper_core.specs.Rows.{Row}
use Rattle.state_core.specs.declared.command.Cmd.{Cmd}
use Rattle.state_core.specs.declared.command.Cmd.TheVariants.{Bulk, Delete, Get, Save, Transact}
use Rattle.state_core.specs.declared.reply.Reply.{Reply}
use Rattle.state_core.specs.declared.reply.Reply.TheVariants as says
use Rattle.state_core.specs.Current.{live_at}
use Rattle.state_core.specs.History.{IsStep, Step, last_mark}
use Rattle.state_core.specs.Reply.{Held, IsReply, bulk_len, bulk_row, has_commit, is_spent, judged, outcome, reading, reply_to, size_with, verdict, writes_of}
use Rattle.state_core.specs.Write.{Write}
use Rattle.session_laws.specs.States.{IsGood, MayBeDone, MayWriteAll, SucceedsBehind, held_after, moment_after}

read_well : (row : Option Row) → IsGood (reading row)
read_well None = tt
read_well (Some row) = tt

-- without a write nothing is in the way, and else versions and room suffice
done_well : (h : Held) (moment : ℕ) (writes : List Write) (done : Reply) → is_spent h.next writes ≡ false → nat_lt h.limit (size_with h moment writes) ≡ false → IsGood done → IsGood (outcome h moment writes done)
done_well h moment [] done versions room good = good
done_well h moment (write ∷ writes) done versions room good =
    let roomy = subst (λ b. IsGood (if b then says.Full (size_with h moment (write ∷ writes)) else done)) (sym room) good in
    subst (λ b. IsGood (if b then says.Spent h.next else (if nat_lt h.limit (size_with h moment (write ∷ writes)) then says.Full (size_with h moment (write ∷ writes)) else done))) (sym versions) roomy

-- where no item is refused
judged_well : (cmd : Cmd) (places : List ℕ) → places ≡ [] → IsGood (verdict cmd []) → IsGood (verdict cmd places)
judged_well cmd places none good = subst (λ these. IsGood (verdict cmd these)) (sym none) good

written_well : (h : Held) (moment : ℕ) (cmd : Cmd) → MayWriteAll h moment cmd → IsGood (verdict cmd []) → IsGood (outcome h moment (writes_of h moment cmd) (verdict cmd (judged h moment cmd).refused))
written_well h moment cmd may good = done_well h moment (writes_of h moment cmd) (verdict cmd (judged h moment cmd).refused) may.versions may.room (judged_well cmd (judged h moment cmd).refused may.current good)

replied_well : (h : Held) (moment : ℕ) (cmd : Cmd) → MayBeDone h moment cmd → IsGood (reply_to h moment cmd)
replied_well h moment (Get key now) may = read_well (live_at h.rows moment key)
replied_well h moment (Bulk keys skip now) may = subst (λ b. IsGood (if b then says.TooLong (bulk_len h.rows moment keys) else says.Rows (map (bulk_row h.rows moment) keys))) (sym may) tt
replied_well h moment (Save items now) may = written_well h moment (Save items now) may tt
replied_well h moment (Delete key etag mode now) may = written_well h moment (Delete key etag mode now) may tt
replied_well h moment (Transact ops now) may = written_well h moment (Transact ops now) may tt

pub succeeds : (opening : Held) (faults : ℕ) (before : List Step) (step : Step) → IsStep opening faults before step → SucceedsBehind opening faults before step
succeeds opening faults before step is may calm = by is.reply
  where
    by : IsReply (held_after opening before) (moment_after opening before step.cmd) step.cmd (Rose (last_mark faults before) step.mark) step.reply → IsGood step.reply ⊎ (step.reply ≡ says.NoMemory)
    by (inl exact) = inl (subst IsGood (sym exact) (replied_well (held_after opening before) (moment_after opening before step.cmd) step.cmd may))
    by (inr (inl none)) = inr none
    by (inr (inr failed)) = absurd (calm failed.2)
