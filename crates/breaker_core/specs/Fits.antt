-- Which replies a command may have.
use Rattle.std.specs.Prelude.{◌≢◌, ◌<◌, ◌+◌, ⊤}
use Rattle.breaker_core.specs.declared.command.BreakerCmd.{BreakerCmd}
use Rattle.breaker_core.specs.declared.command.BreakerCmd.TheVariants.{Admit, Report}
use Rattle.breaker_core.specs.declared.command.BreakerReply.{BreakerReply}
use Rattle.breaker_core.specs.declared.command.BreakerReply.TheVariants.{Admitted, Opened, TooMany, Counted, Stale}

-- A call that asks is let through or not, and an open breaker says up to when: at most the last moment before the year 10000, and 8,760 hours.
-- A report counts, or is of another generation than the present one
abbrev pub Fits : BreakerCmd → BreakerReply → Type 0
Fits (Admit now) (Admitted generation half) = ⊤
Fits (Admit now) (Opened until) = until < 253402300800000 + 31536000000
Fits (Admit now) (TooMany out) = ⊤
Fits (Admit now) Counted = ⊥
Fits (Admit now) (Stale current) = ⊥
Fits (Report generation now good) Counted = ⊤
Fits (Report generation now good) (Stale current) = generation ≢ current
Fits (Report generation now good) (Admitted other half) = ⊥
Fits (Report generation now good) (Opened until) = ⊥
Fits (Report generation now good) (TooMany out) = ⊥
