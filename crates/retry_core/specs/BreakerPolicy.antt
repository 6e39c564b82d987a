-- What is asked of a breaker's policy.
use Rattle.std.specs.Prelude.{◌≤◌}
use Rattle.retry_core.specs.declared.policy.BreakerPolicy.{BreakerPolicy}

-- the milliseconds of the policy are those of a duration, at most 8,760 hours
abbrev pub IsWithinLimit : BreakerPolicy → Type 0
IsWithinLimit policy = (policy.interval_ms ≤ 31536000000) × (policy.timeout_ms ≤ 31536000000)
