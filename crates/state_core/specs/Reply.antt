-- The reply to a command, by what the keeper holds.
use Rattle.std.specs.Prelude.{◌≡◌, ◌⊎◌, ℕ, ◌+◌, ◌^◌, Bool, true, false, nat_lt, List, [], ◌∷◌, ◌++◌, length, map, Option, Some, None, option_map, if◌then◌else◌}
use Rattle.std.specs.List.{sum_by}
use Rattle.keeper_core.specs.Rows as kept
use Rattle.keeper_core.specs.Rows.{Row}
use Rattle.keeper_core.specs.declared.changes.Change.{Change}
use Rattle.keeper_core.specs.declared.keeper.Keeper.{Ghosts}
use Rattle.state_core.specs.declared.command.Cmd.{Cmd}
use Rattle.state_core.specs.declared.command.Cmd.TheVariants.{Get, Save, Delete, Bulk, Transact}
use Rattle.state_core.specs.declared.reply.BulkRow.{BulkRow}
use Rattle.state_core.specs.declared.reply.Found.{Found}
use Rattle.state_core.specs.declared.reply.Reply.{Reply}
use Rattle.state_core.specs.declared.reply.Reply.TheVariants.{Value, Absent, Saved, SomeRefused, Deleted, Mismatch, Rows, TooLong, Committed, Failed, Full, Spent, NoMemory}
use Rattle.state_core.specs.Current.{live_at}
use Rattle.state_core.specs.Write.{Write, upserts, numbered, sweep}
use Rattle.state_core.specs.Judged.{Judged, ops_of, judged_in, writes_in}

-- what a keeper shows: its rows, the version of the next write, its size and greatest size, what changes do to the size, and whether a commit can fail
pub record Held : Type 0 where
  pub rows : kept.Rows
  pub next : ℕ
  pub size : ℕ
  pub limit : ℕ
  pub size_after : kept.Rows → ℕ → List Change → ℕ
  pub may_fail : Bool

abbrev pub held : {K : Type 0} → Ghosts K → K → Held
held keeping keeper = record {
  rows = keeping.rows keeper;
  next = keeping.next keeper;
  size = keeping.size keeper;
  limit = keeping.limit keeper;
  size_after = keeping.size_after keeper;
  may_fail = keeping.may_fail keeper;
}

-- ---- readings

abbrev pub reading : Option Row → Reply
reading None = Absent
reading (Some row) = Value row.value row.version

abbrev pub found_of : Row → Found
found_of row = record { value = row.value; version = row.version }

abbrev pub bulk_row : kept.Rows → ℕ → List ℕ → BulkRow
bulk_row rows moment key = record { key = key; found = option_map found_of (live_at rows moment key) }

abbrev pub value_len : Option Row → ℕ
value_len None = 0
value_len (Some row) = length row.value

-- the bytes of the values that keys have
abbrev pub bulk_len : kept.Rows → ℕ → List (List ℕ) → ℕ
bulk_len rows moment keys = sum_by (λ key. value_len (live_at rows moment key)) keys

-- at most 67,108,864 bytes are answered
abbrev pub bulk_reading : kept.Rows → ℕ → List (List ℕ) → Reply
bulk_reading rows moment keys =
    if nat_lt 67108864 (bulk_len rows moment keys) then TooLong (bulk_len rows moment keys) else Rows (map (bulk_row rows moment) keys)

-- ---- writes

-- what is answered to a command by the places that are refused, where no commit is in the way
abbrev pub verdict : Cmd → List ℕ → Reply
verdict (Get key now) places = Absent
verdict (Bulk keys skip now) places = Absent
verdict (Save items now) [] = Saved
verdict (Save items now) (place ∷ places) = SomeRefused (place ∷ places)
verdict (Delete key etag mode now) [] = Deleted
verdict (Delete key etag mode now) (place ∷ places) = Mismatch place
verdict (Transact ops now) [] = Committed
verdict (Transact ops now) (place ∷ places) = Mismatch place

-- the versions up to 2^62 are too few for the upserts
abbrev pub is_spent : ℕ → List Write → Bool
is_spent next writes = nat_lt (2 ^ 62) (next + upserts writes)

-- the size after the sweep and the writes
abbrev pub size_with : Held → ℕ → List Write → ℕ
size_with h moment writes = h.size_after h.rows h.size (numbered h.next (sweep h.rows moment ++ writes))

-- what is answered where a commit would answer `done`
abbrev pub refusal_or : Held → ℕ → List Write → Reply → Reply
refusal_or h moment writes done =
    if is_spent h.next writes then Spent h.next
    else (if nat_lt h.limit (size_with h moment writes) then Full (size_with h moment writes) else done)

-- without a write there is no commit
abbrev pub outcome : Held → ℕ → List Write → Reply → Reply
outcome h moment [] done = done
outcome h moment (write ∷ writes) done = refusal_or h moment (write ∷ writes) done

abbrev pub has_commit : ℕ → List Write → Bool
has_commit next [] = false
has_commit next (write ∷ writes) = if is_spent next (write ∷ writes) then false else true

-- ---- all commands, at a moment

abbrev pub judged : Held → ℕ → Cmd → Judged
judged h moment cmd = judged_in h.rows h.next moment (ops_of cmd)

abbrev pub writes_of : Held → ℕ → Cmd → List Write
writes_of h moment cmd = writes_in cmd (judged h moment cmd)

-- the reply where there is memory and the keeper does not fail
abbrev pub reply_to : Held → ℕ → Cmd → Reply
reply_to h moment (Get key now) = reading (live_at h.rows moment key)
reply_to h moment (Bulk keys skip now) = bulk_reading h.rows moment keys
reply_to h moment (Save items now) =
    outcome h moment (writes_of h moment (Save items now)) (verdict (Save items now) (judged h moment (Save items now)).refused)
reply_to h moment (Delete key etag mode now) =
    outcome h moment (writes_of h moment (Delete key etag mode now)) (verdict (Delete key etag mode now) (judged h moment (Delete key etag mode now)).refused)
reply_to h moment (Transact ops now) =
    outcome h moment (writes_of h moment (Transact ops now)) (verdict (Transact ops now) (judged h moment (Transact ops now)).refused)

-- a reply to a command: want of memory may stand in place of any, and a fault in place of a commit, where `faulted` holds
abbrev pub IsReply : Held → ℕ → Cmd → Type 0 → Reply → Type 0
IsReply h moment cmd faulted reply =
    (reply ≡ reply_to h moment cmd) ⊎ (reply ≡ NoMemory) ⊎ ((reply ≡ Failed) × (has_commit h.next (writes_of h moment cmd) ≡ true) × faulted)
