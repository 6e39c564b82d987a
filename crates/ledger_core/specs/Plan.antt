-- Plans of subscriptions.
use Rattle.std.specs.Prelude.{ℕ, List, None, false, slice_index_or}
use Rattle.std.specs.List.{All}
use Rattle.std.specs.Option.{ForSome}
use Rattle.retry_core.specs.RetryPolicy.{IsWithinLimit}
use Rattle.ledger_core.specs.declared.plan.Plan.{Plan}

-- the plan of a subscription
abbrev pub plan_at : List Plan → ℕ → Plan
plan_at plans sub = slice_index_or plans sub (record { retry = None; dead = false })

-- the milliseconds of each policy are those of a duration
abbrev pub AreWithinLimit : List Plan → Type 0
AreWithinLimit plans = All (λ plan. ForSome plan.retry IsWithinLimit) plans
