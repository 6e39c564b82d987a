-- What an entry writes, and what the keeper holds then.
use Rattle.std.specs.Prelude.{◌≡◌, ◌⊎◌, ℕ, ◌+◌, Bool, true, false, List, [], ◌∷◌, ◌++◌, ⊤, Result, Ok, Err, if◌then◌else◌}
use Rattle.side_world.specs.Faults.{Rose}
use Rattle.keeper_core.specs.Faults.{Rises}
use Rattle.keeper_core.specs.declared.changes.Changes.{Changes}
use Rattle.keeper_core.specs.declared.keeper.KeepErr.{KeepErr}
use Rattle.keeper_core.specs.declared.keeper.KeepErr.TheVariants as keep
use Rattle.state_core.specs.declared.command.Cmd.{Cmd}
use Rattle.state_core.specs.declared.reply.Reply.{Reply}
use Rattle.state_core.specs.declared.reply.Reply.TheVariants.{Value, Absent, Saved, SomeRefused, Deleted, Mismatch, Rows, TooLong, Committed, Failed, Full, Spent, NoMemory}
use Rattle.state_core.specs.Write.{Write, upserts, numbered, rows_after, sweep}
use Rattle.state_core.specs.Reply.{Held, writes_of, outcome, has_commit, IsReply}

-- the replies after which what passed is stored
abbrev pub stores : Reply → Bool
stores Saved = true
stores (SomeRefused places) = true
stores Deleted = true
stores Committed = true
stores (Value value version) = false
stores Absent = false
stores (Mismatch place) = false
stores (Rows rows) = false
stores (TooLong len) = false
stores Failed = false
stores (Full len) = false
stores (Spent next) = false
stores NoMemory = false

-- what a commit makes of a command's writes: the sweep comes before them, and there is none without a write
abbrev pub with_sweep : Held → ℕ → List Write → List Write
with_sweep h moment [] = []
with_sweep h moment (write ∷ writes) = sweep h.rows moment ++ write ∷ writes

-- what an entry wrote
abbrev pub written : Held → ℕ → Cmd → Reply → List Write
written h moment cmd reply = if stores reply then with_sweep h moment (writes_of h moment cmd) else []

abbrev pub size_in : Held → List Write → ℕ
size_in h [] = h.size
size_in h (write ∷ writes) = h.size_after h.rows h.size (numbered h.next (write ∷ writes))

-- what a keeper holds after writes
abbrev pub held_with : Held → List Write → Held
held_with h writes = record {
  rows = rows_after h.rows h.next writes;
  next = h.next + upserts writes;
  size = size_in h writes;
  limit = h.limit;
  size_after = h.size_after;
  may_fail = h.may_fail;
}

-- the commit that writes are: none without a write
abbrev pub commit_of : Held → List Write → List Changes
commit_of h [] = []
commit_of h (write ∷ writes) = record { list = numbered h.next (write ∷ writes); next = h.next + upserts (write ∷ writes) } ∷ []

-- the reply where a keeper refuses changes
abbrev pub refusal_of : KeepErr → Reply
refusal_of keep.Failed = Failed
refusal_of (keep.Full len) = Full len
refusal_of keep.NoMemory = NoMemory

-- the reply to a command that answers `done` where its commit is made
abbrev pub done_or : Reply → Result ⊤ Reply → Reply
done_or done (Ok made) = done
done_or done (Err reply) = reply

-- the reply to a command that is to make these writes and then to answer `done`, and what the keeper holds after it; `made` is so of the
-- commits that it made
pub record IsCommitted (made : List Changes → Type 0) (before after : Held) (faults_before faults_after moment : ℕ) (writes : List Write) (done reply : Reply) : Type 0 where
  pub reply_is : (reply ≡ outcome before moment writes done) ⊎ (reply ≡ NoMemory) ⊎ ((reply ≡ Failed) × (has_commit before.next writes ≡ true) × Rose faults_before faults_after)
  pub held_is : after ≡ held_with before (if stores reply then with_sweep before moment writes else [])
  pub faults : Rises before.may_fail faults_before faults_after
  pub steady : (reply ≡ Failed → ⊥) → faults_after ≡ faults_before
  pub commits : made (commit_of before (if stores reply then with_sweep before moment writes else []))

-- the reply to a command, and what the keeper holds after it; `made` is so of the commits that it made
pub record IsAnswered (made : List Changes → Type 0) (before after : Held) (faults_before faults_after moment : ℕ) (cmd : Cmd) (reply : Reply) : Type 0 where
  pub reply_is : IsReply before moment cmd (Rose faults_before faults_after) reply
  pub held_is : after ≡ held_with before (written before moment cmd reply)
  pub faults : Rises before.may_fail faults_before faults_after
  pub steady : (reply ≡ Failed → ⊥) → faults_after ≡ faults_before
  pub commits : made (commit_of before (written before moment cmd reply))
