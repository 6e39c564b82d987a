-- How a worker goes on after a connection or a turn, and how serving ends.
use Rattle.std.specs.Prelude.{ℕ, Bool, true, false, is_some, min, Option, Some, None}
use Rattle.conn_serve.specs.declared.ended.Ended.{Ended}
use Rattle.conn_serve.specs.declared.ended.Ended.TheVariants as ends
use Rattle.sidecar_turns.specs.declared.idling.IdleTurn.{IdleTurn}
use Rattle.sidecar_turns.specs.declared.idling.IdleTurn.TheVariants as turns
use Rattle.sidecar_workers.specs.declared.exit.Exit.{Exit}
use Rattle.sidecar_workers.specs.declared.exit.Exit.TheVariants as exits
use Rattle.sidecar_workers.specs.declared.work.Served.{Served}
use Rattle.sidecar_workers.specs.declared.work.Served.TheVariants as served
use Rattle.sidecar_workers.specs.declared.work.Turned.{Turned}
use Rattle.sidecar_workers.specs.declared.work.Turned.TheVariants as turned
use Rattle.sidecar_workers.specs.Works.{reason_of}
use Rattle.sidecar_serving.specs.declared.opening.Unopened.{Unopened}
use Rattle.sidecar_serving.specs.declared.opening.Unopened.TheVariants as lack
use Rattle.sidecar_serving.specs.declared.end.End.{End}
use Rattle.sidecar_serving.specs.declared.end.End.TheVariants as ended

-- what a worker's `serve` answers after a connection that ended so: a connection that failed, was refused or had no memory ends alone
abbrev pub served_of : Ended → Served
served_of ends.Done = served.Next
served_of ends.Closed = served.Next
served_of ends.Asked = served.Asked
served_of ends.ClosedByPeer = served.Next
served_of (ends.Refused why) = served.Next
served_of ends.Limit = served.Next
served_of (ends.Spent count) = served.Spent count
served_of ends.SourceFailed = served.Next
served_of ends.SinkFailed = served.Next
served_of ends.NoMemory = served.NoMemory

-- what its `turn` answers after one that came to this
abbrev pub turned_of : IdleTurn → Turned
turned_of turns.Did = turned.Went
turned_of (turns.Idle next) = turned.Went
turned_of turns.Held = turned.NoMemory
turned_of (turns.Exhausted count) = turned.Spent count

-- a tick was taken, or something was delivered
abbrev pub did_something : IdleTurn → Bool
did_something turns.Did = true
did_something (turns.Idle next) = false
did_something turns.Held = false
did_something (turns.Exhausted count) = false

-- the last millisecond of the year 9999
abbrev pub last_moment : ℕ
last_moment = 253402300799999

-- when the next tick or delivery will be due, where that is known
abbrev pub next_due : IdleTurn → ℕ
next_due turns.Did = last_moment
next_due (turns.Idle None) = last_moment
next_due (turns.Idle (Some next)) = min next last_moment
next_due turns.Held = last_moment
next_due (turns.Exhausted count) = last_moment

-- what was read in the cell that ended a worker, if one did
abbrev pub spent_by : Option Exit → Option ℕ
spent_by None = None
spent_by (Some exits.Asked) = None
spent_by (Some exits.Stopped) = None
spent_by (Some exits.Closed) = None
spent_by (Some exits.Failed) = None
spent_by (Some (exits.Spent count)) = Some count

-- whether the worker's acceptor failed
abbrev pub is_failed : Option Exit → Bool
is_failed None = false
is_failed (Some exits.Asked) = false
is_failed (Some exits.Stopped) = false
is_failed (Some exits.Closed) = false
is_failed (Some exits.Failed) = true
is_failed (Some (exits.Spent count)) = false

-- whether others ended the worker
abbrev pub is_stopped : Option Exit → Bool
is_stopped None = false
is_stopped (Some exits.Asked) = false
is_stopped (Some exits.Stopped) = true
is_stopped (Some exits.Closed) = false
is_stopped (Some exits.Failed) = false
is_stopped (Some (exits.Spent count)) = false

-- whether the worker ended all others
abbrev pub has_reason : Option Exit → Bool
has_reason None = false
has_reason (Some e) = is_some (reason_of e)

-- how serving ends: an exhausted cell stands before a failed acceptor, and that before all else
abbrev pub end_of : Option ℕ → Bool → End
end_of (Some count) failed = ended.Spent count
end_of None true = ended.AcceptorFailed
end_of None false = ended.Done

-- how it ends where a worker was not opened
abbrev pub end_without : Unopened → End
end_without lack.Failed = ended.OutsideFailed
end_without lack.NoMemory = ended.NoMemory
