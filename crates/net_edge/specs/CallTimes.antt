-- For how long a call to another program is waited for, and its connection kept.
use Rattle.std.specs.Prelude.{◌≡◌, ℕ, ◌+◌, ◌-◌, ◌/◌, ◌==◌, max, if◌then◌else◌, Option, Some, None, Result, Ok, Err}
use Rattle.http_client.specs.declared.reply.Reply.{Reply}
use Rattle.http_client.specs.declared.asking.AskErr.{AskErr}
use Rattle.net_edge.specs.Patience.{capped}

-- the moment at which a call is over that begins now: behind its limit, or 60 seconds where it has none
abbrev pub call_end : ℕ → ℕ → ℕ
call_end now limit_ms = capped (now + (if limit_ms == 0 then 60000 else limit_ms))

-- the moment at which all calls are over once all workers have left their door: five seconds later
abbrev pub end_behind : ℕ → ℕ
end_behind now = capped (now + 5000)

-- the moment up to which one of so many addresses that are left is tried: each has its part of the time to the end, and the last all of it
abbrev pub share_end : ℕ → ℕ → ℕ → ℕ
share_end now end left = now + (end - now) / max left 1

-- what a call answers and what becomes of its connection, where the reply is this: it comes back exactly where the reply says that it may be used again
abbrev pub KeepsWhere : {C : Type 0} → Result Reply AskErr → C → Option C → Type 0
KeepsWhere (Ok reply) connection after = after ≡ (if reply.persists then Some connection else None)
KeepsWhere (Err why) connection after = after ≡ None
