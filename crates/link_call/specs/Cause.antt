-- Why a call of a link came to what it came to.
use Rattle.std.specs.Prelude.{◌≤◌, ◌<◌, ◌+◌, ◌⊎◌}
use Rattle.side_base.specs.declared.message.Response.{Response}
use Rattle.side_world.specs.Faults.{Rose}
use Rattle.side_world.specs.Link.{IsReply}
use Rattle.retry_core.specs.declared.policy.Bound.{Bound}
use Rattle.policy_run.specs.declared.outcome.Outcome.{Outcome}
use Rattle.policy_run.specs.declared.outcome.Outcome.TheVariants.{Good, Bad, Refused, Exhausted, NoMemory}
use Rattle.policy_run.specs.Attempts.{limit_of}
use Rattle.policy_run.specs.Effects.{Clocked}
use Rattle.link_call.specs.declared.miss.Miss.{Miss}
use Rattle.link_call.specs.declared.miss.Miss.TheVariants.{Failed, Expired, Replied}
use Rattle.link_call.specs.LinkAt.{LinkAt}

-- a limit is bound, and the clock moved by more
abbrev pub IsLate : Bound → Clocked → Clocked → Type 0
IsLate bound clock clock' = (0 < limit_of bound) × (clock.last + limit_of bound < clock'.last)

-- why the last attempt failed: the link failed, or it expired or took too long, or its reply has a status from 500 on
abbrev pub IsMissed : Bound → Miss → LinkAt → LinkAt → Clocked → Clocked → Type 0
IsMissed bound Failed link link' clock clock' = Rose link.faults link'.faults
IsMissed bound Expired link link' clock clock' = Rose link.expiries link'.expiries ⊎ IsLate bound clock clock'
IsMissed bound (Replied response) link link' clock clock' = IsReply response × (500 ≤ response.status)

-- a good reply has a status below 500; a failing attempt has its cause
abbrev pub HasCause : Bound → Outcome Response Miss → LinkAt → LinkAt → Clocked → Clocked → Type 0
HasCause bound (Good response) link link' clock clock' = IsReply response × (response.status < 500)
HasCause bound (Bad why) link link' clock clock' = IsMissed bound why link link' clock clock'
HasCause bound (Refused refusal) link link' clock clock' = Unit {0}
HasCause bound (Exhausted count) link link' clock clock' = Unit {0}
HasCause bound NoMemory link link' clock clock' = Unit {0}
