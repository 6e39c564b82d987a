-- What a post does, put together from its parts.
use Rattle.std.proofs.Common.{◌≡◌, ℕ, List, [], Result, Err, refl, subst}
use Rattle.side_base.specs.declared.message.LinkRequest.{LinkRequest}
use Rattle.side_base.specs.declared.message.Response.{Response}
use Rattle.side_world.specs.declared.link.LinkCall.{LinkCall}
use Rattle.turn_cell.specs.declared.error.ApiErr.{ApiErr}
use Rattle.turn_cell.specs.declared.error.ApiErr.TheVariants as error
use Rattle.breaker_core.specs.Course.{Step}
use Rattle.retry_core.specs.declared.policy.Bound.{Bound}
use Rattle.policy_run.specs.declared.outcome.Outcome.{Outcome}
use Rattle.policy_run.specs.Event.{Event}
use Rattle.policy_run.specs.Effects.{Clocked, Effects, Times}
use Rattle.policy_run.proofs.Composed.{no_effects}
use Rattle.link_call.specs.declared.miss.Miss.{Miss}
use Rattle.link_call.specs.Came.{Came}
use Rattle.link_call.specs.LinkAt.{Asks, LinkAt, asks_none}
use Rattle.cron_bind.specs.declared.posting.Posted.{Posted}
use Rattle.cron_bind.specs.Posting.{Posts, called, lacks, told_of, request_to}

module _ (bound : Bound) (port : ℕ) (name : List ℕ) (held : List Step → Type 0) (drawn : List ℕ → Type 0) where
  -- the app was called
  pub posted_so : (at at' : LinkAt) (clock : Times) (asked : LinkRequest) (outcome : Outcome Response Miss) (came : Result Posted ApiErr) → asked ≡ request_to port name → came ≡ told_of outcome
      → ((events : List (Event LinkCall)) × Came bound at at' clock asked events outcome × Effects events (λ calls. Asks at calls at') held clock.before clock.after drawn)
      → (events : List (Event LinkCall)) × Posts (Came bound at at' clock) port name events came × Effects events (λ calls. Asks at calls at') held clock.before clock.after drawn
  posted_so at at' clock asked outcome came is told ran = (ran.0, called outcome (subst (λ a. Came bound at at' clock a ran.0 outcome) is ran.1) told, ran.2)

  -- there was no memory for the request
  pub unposted : (at : LinkAt) (clock : Clocked) → held [] → drawn []
      → (events : List (Event LinkCall)) × Posts (Came bound at at (record { before = clock; after = clock })) port name events (Err error.NoMemory) × Effects events (λ calls. Asks at calls at) held clock clock drawn
  unposted at clock none-held none-drawn = ([], lacks refl refl, no_effects (λ calls. Asks at calls at) held clock drawn (asks_none at) none-held none-drawn)
