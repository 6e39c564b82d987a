-- What is asked of what is bound to a target.
use Rattle.std.specs.Prelude.{◌≤◌}
use Rattle.std.specs.Option.{ForSome}
use Rattle.retry_core.specs.declared.policy.Bound.{Bound}
use Rattle.retry_core.specs.RetryPolicy.{IsWithinLimit as IsRetryWithinLimit}

-- the milliseconds of each part are those of a duration, at most 8,760 hours
abbrev pub IsWithinLimit : Bound → Type 0
IsWithinLimit bound = ForSome bound.timeout_ms (λ ms. ms ≤ 31536000000) × ForSome bound.retry IsRetryWithinLimit
