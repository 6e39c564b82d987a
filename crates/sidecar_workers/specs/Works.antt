-- The calls of a work, in the order in which a worker makes them.
use Rattle.std.specs.Prelude.{◌≡◌, ℕ, Bool, true, false, count_by, List, [], ◌∷◌, ◌++◌, Option, Some, None, MatchOption}
use Rattle.sidecar_workers.specs.declared.exit.Exit.{Exit}
use Rattle.sidecar_workers.specs.declared.exit.Exit.TheVariants as exits
use Rattle.sidecar_workers.specs.declared.reason.Reason.{Reason}
use Rattle.sidecar_workers.specs.declared.reason.Reason.TheVariants as reasons
use Rattle.sidecar_workers.specs.declared.work.Got.{Got}
use Rattle.sidecar_workers.specs.declared.work.Got.TheVariants as got
use Rattle.sidecar_workers.specs.declared.work.Served.{Served}
use Rattle.sidecar_workers.specs.declared.work.Served.TheVariants as served
use Rattle.sidecar_workers.specs.declared.work.Turned.{Turned}
use Rattle.sidecar_workers.specs.declared.work.Turned.TheVariants as turned
use Rattle.sidecar_workers.specs.declared.work.Owed.{Owed}
use Rattle.sidecar_workers.specs.declared.work.Owed.TheVariants as owed
use Rattle.sidecar_workers.specs.declared.work.Call.{Call}
use Rattle.sidecar_workers.specs.declared.work.Call.TheVariants as call

-- what an answer of `accept` leaves owed
abbrev pub owed_after : Got → Owed
owed_after got.Conn = owed.Serve
owed_after got.Idle = owed.Turn
owed_after got.Closed = owed.Nothing
owed_after got.Failed = owed.Nothing

-- how a worker ends after an answer, where it ends
abbrev pub exit_of_got : Got → Option Exit
exit_of_got got.Conn = None
exit_of_got got.Idle = None
exit_of_got got.Closed = Some exits.Closed
exit_of_got got.Failed = Some exits.Failed

abbrev pub exit_of_served : Served → Option Exit
exit_of_served served.Next = None
exit_of_served served.Asked = Some exits.Asked
exit_of_served (served.Spent count) = Some (exits.Spent count)
exit_of_served served.NoMemory = None

abbrev pub exit_of_turned : Turned → Option Exit
exit_of_turned turned.Went = None
exit_of_turned turned.NoMemory = None
exit_of_turned (turned.Spent count) = Some (exits.Spent count)

-- why a worker that ended so stops all others
abbrev pub reason_of : Exit → Option Reason
reason_of exits.Asked = Some reasons.Asked
reason_of exits.Stopped = None
reason_of exits.Closed = None
reason_of exits.Failed = Some reasons.Failed
reason_of (exits.Spent count) = Some (reasons.Spent count)

-- whether the work is over where a worker ended so
abbrev pub is_over_at : Exit → Bool
is_over_at exits.Asked = true
is_over_at exits.Stopped = false
is_over_at exits.Closed = false
is_over_at exits.Failed = false
is_over_at (exits.Spent count) = true

-- or goes on
abbrev pub is_over_by : Option Exit → Bool
is_over_by None = false
is_over_by (Some e) = is_over_at e

abbrev pub is_accept : Call → Bool
is_accept (call.Accept g) = true
is_accept (call.Serve s) = false
is_accept (call.Turn t) = false

-- how often a connection was waited for
abbrev pub accepts_in : List Call → ℕ
accepts_in ds = count_by is_accept ds

-- where calls are told afterwards, they were told before, and this one came last
abbrev pub Tells : Option (List Call) → Call → Option (List Call) → Type 0
Tells before one after = (cs : List Call) → after ≡ Some cs → (bs : List Call) × (before ≡ Some bs) × (cs ≡ bs ++ one ∷ [])

-- all calls of a worker that ended so: it looked at the stop word before each `accept`, and found it set where the calls end
-- without an answer that ends it
abbrev pub IsRun : List Call → Exit → Type 0
IsRun [] e = e ≡ exits.Stopped
IsRun (call.Accept got.Conn ∷ []) e = ⊥
IsRun (call.Accept got.Conn ∷ call.Serve s ∷ cs) e = MatchOption (exit_of_served s) (IsRun cs e) (λ x. (cs ≡ []) × (e ≡ x))
IsRun (call.Accept got.Conn ∷ call.Accept g ∷ cs) e = ⊥
IsRun (call.Accept got.Conn ∷ call.Turn t ∷ cs) e = ⊥
IsRun (call.Accept got.Idle ∷ []) e = ⊥
IsRun (call.Accept got.Idle ∷ call.Turn t ∷ cs) e = MatchOption (exit_of_turned t) (IsRun cs e) (λ x. (cs ≡ []) × (e ≡ x))
IsRun (call.Accept got.Idle ∷ call.Accept g ∷ cs) e = ⊥
IsRun (call.Accept got.Idle ∷ call.Serve s ∷ cs) e = ⊥
IsRun (call.Accept got.Closed ∷ cs) e = (cs ≡ []) × (e ≡ exits.Closed)
IsRun (call.Accept got.Failed ∷ cs) e = (cs ≡ []) × (e ≡ exits.Failed)
IsRun (call.Serve s ∷ cs) e = ⊥
IsRun (call.Turn t ∷ cs) e = ⊥

-- calls after which a worker goes on: whatever run follows, they are the beginning of one
abbrev pub Leads : List Call → Type 0
Leads ds = (cs : List Call) (e : Exit) → IsRun cs e → IsRun (ds ++ cs) e
