-- What a call of a method does and is answered, put together from its parts.
use Rattle.std.proofs.Common.{◌≡◌, ◌≤◌, ℕ, List, [], Result, Ok, Err, inl, inr, refl, sym, subst, arith}
use Rattle.std.specs.Prelude.{IfOk}
use Rattle.side_base.specs.declared.message.LinkRequest.{LinkRequest}
use Rattle.side_base.specs.declared.message.Request.{Request}
use Rattle.side_base.specs.declared.message.Response.{Response}
use Rattle.side_world.specs.declared.link.LinkCall.{LinkCall}
use Rattle.turn_cell.specs.declared.error.ApiErr.{ApiErr}
use Rattle.turn_cell.specs.declared.error.ApiErr.TheVariants as error
use Rattle.breaker_core.specs.Course.{Step}
use Rattle.retry_core.specs.declared.policy.Bound.{Bound}
use Rattle.policy_run.specs.declared.outcome.Outcome.{Outcome}
use Rattle.policy_run.specs.declared.outcome.Outcome.TheVariants.{Good, Bad, Refused, Exhausted, NoMemory}
use Rattle.policy_run.specs.Event.{Event}
use Rattle.policy_run.specs.Effects.{Clocked, Effects, Times}
use Rattle.policy_run.proofs.Composed.{no_effects}
use Rattle.link_call.specs.declared.miss.Miss.{Miss}
use Rattle.link_call.specs.declared.miss.Miss.TheVariants.{Failed, Expired, Replied}
use Rattle.link_call.specs.Came.{Came, IsOr}
use Rattle.link_call.specs.Cause.{HasCause}
use Rattle.link_call.specs.LinkAt.{Asks, LinkAt, asks_none}
use Rattle.invoke_api.specs.declared.placing.Unplaced.{Unplaced}
use Rattle.invoke_api.specs.declared.placing.Unplaced.TheVariants as unplaced
use Rattle.invoke_api.specs.Places.{Apps, AsksFor}
use Rattle.invoke_api.specs.Invoking.{InvokeReplies, Invokes, UnplacedReplies, called, lacks, no_port, unknown}

-- ---- the status of a response

abbrev pub HasStatus : Response → Type 0
HasStatus response = (200 ≤ response.status) × (response.status ≤ 599)

given_so : (response : Response) (reply : Result Response ApiErr) → IsOr response reply → HasStatus response → IfOk reply HasStatus
given_so response reply (inl is) status = subst (λ (r : Result Response ApiErr). IfOk r HasStatus) (sym is) status
given_so response reply (inr lacking) status = subst (λ (r : Result Response ApiErr). IfOk r HasStatus) (sym lacking) tt

ended_so : (e : ApiErr) (reply : Result Response ApiErr) → reply ≡ Err e → IfOk reply HasStatus
ended_so e reply is = subst (λ (r : Result Response ApiErr). IfOk r HasStatus) (sym is) tt

pub status_so : (bound : Bound) (at at' : LinkAt) (clock clock' : Clocked) (outcome : Outcome Response Miss) (reply : Result Response ApiErr) → HasCause bound outcome at at' clock clock' → InvokeReplies outcome reply → IfOk reply HasStatus
status_so bound at at' clock clock' (Good response) reply cause replies = given_so _ reply replies (cause.0.final, cause.0.known)
status_so bound at at' clock clock' (Bad Failed) reply cause replies = given_so _ reply replies (omega arith, omega arith)
status_so bound at at' clock clock' (Bad Expired) reply cause replies = given_so _ reply replies (omega arith, omega arith)
status_so bound at at' clock clock' (Bad (Replied response)) reply cause replies = given_so _ reply replies (cause.0.final, cause.0.known)
status_so bound at at' clock clock' (Refused refusal) reply cause replies = given_so _ reply replies (omega arith, omega arith)
status_so bound at at' clock clock' (Exhausted count) reply cause replies = ended_so (error.Exhausted count) reply replies
status_so bound at at' clock clock' NoMemory reply cause replies = ended_so error.NoMemory reply replies

pub unplaced_status : (id : List ℕ) (why : Unplaced) (reply : Result Response ApiErr) → UnplacedReplies id why reply → IfOk reply HasStatus
unplaced_status id unplaced.NoPort reply replies = given_so _ reply replies (omega arith, omega arith)
unplaced_status id unplaced.Unknown reply replies = given_so _ reply replies (omega arith, omega arith)
unplaced_status id unplaced.NoMemory reply replies = ended_so error.NoMemory reply replies

-- ---- an exhausted cell

not_given : (response : Response) (reply : Result Response ApiErr) (count : ℕ) → IsOr response reply → reply ≡ Err (error.Exhausted count) → ⊥
not_given response reply count (inl is) ended = absurd (cc (is, ended))
not_given response reply count (inr lacking) ended = absurd (cc (lacking, ended))

pub shows_count : (shows : ℕ → Type 0) (outcome : Outcome Response Miss) (reply : Result Response ApiErr) → InvokeReplies outcome reply → ((count : ℕ) → outcome ≡ Exhausted count → shows count) → (count : ℕ) → reply ≡ Err (error.Exhausted count) → shows count
shows_count shows (Good response) reply replies guard count ended = absurd (not_given _ reply count replies ended)
shows_count shows (Bad Failed) reply replies guard count ended = absurd (not_given _ reply count replies ended)
shows_count shows (Bad Expired) reply replies guard count ended = absurd (not_given _ reply count replies ended)
shows_count shows (Bad (Replied response)) reply replies guard count ended = absurd (not_given _ reply count replies ended)
shows_count shows (Refused refusal) reply replies guard count ended = absurd (not_given _ reply count replies ended)
shows_count shows (Exhausted n) reply replies guard count ended = guard count (cc (replies, ended))
shows_count shows NoMemory reply replies guard count ended = absurd (cc (replies, ended))

pub unplaced_count : (shows : ℕ → Type 0) (id : List ℕ) (why : Unplaced) (reply : Result Response ApiErr) → UnplacedReplies id why reply → (count : ℕ) → reply ≡ Err (error.Exhausted count) → shows count
unplaced_count shows id unplaced.NoPort reply replies count ended = absurd (not_given _ reply count replies ended)
unplaced_count shows id unplaced.Unknown reply replies count ended = absurd (not_given _ reply count replies ended)
unplaced_count shows id unplaced.NoMemory reply replies count ended = absurd (cc (replies, ended))

-- ---- what is done

module _ (apps : Apps) (request : Request) (id rest : List ℕ) (held : List Step → Type 0) (drawn : List ℕ → Type 0) where
  -- what was asked came to this
  pub called_so : (bound : Bound) (at at' : LinkAt) (clock : Times) (asked : LinkRequest) (outcome : Outcome Response Miss) (reply : Result Response ApiErr)
      → AsksFor apps request id rest (Ok asked) → InvokeReplies outcome reply
      → ((events : List (Event LinkCall)) × Came bound at at' clock asked events outcome × Effects events (λ calls. Asks at calls at') held clock.before clock.after drawn)
      → (events : List (Event LinkCall)) × Invokes (Came bound at at' clock) apps request id rest events reply × Effects events (λ calls. Asks at calls at') held clock.before clock.after drawn
  called_so bound at at' clock asked outcome reply asks replies came = (
    came.0,
    called asks.0 asks.1 (record { outcome = outcome; came = subst (λ a. Came bound at at' clock a came.0 outcome) asks.2 came.1; replies = replies }),
    came.2,
  )

  uncalled_by : (bound : Bound) (at : LinkAt) (clock : Times) (why : Unplaced) (reply : Result Response ApiErr) → AsksFor apps request id rest (Err why) → UnplacedReplies id why reply → Invokes (Came bound at at clock) apps request id rest [] reply
  uncalled_by bound at clock unplaced.NoPort reply asks replies = no_port asks.0 asks.1 (refl, replies)
  uncalled_by bound at clock unplaced.Unknown reply asks replies = unknown asks.0 asks.1 (refl, replies)
  uncalled_by bound at clock unplaced.NoMemory reply asks replies = lacks (refl, replies)

  -- nothing was asked
  pub uncalled : (bound : Bound) (at : LinkAt) (clock : Clocked) (why : Unplaced) (reply : Result Response ApiErr) → AsksFor apps request id rest (Err why) → UnplacedReplies id why reply → held [] → drawn []
      → (events : List (Event LinkCall)) × Invokes (Came bound at at (record { before = clock; after = clock })) apps request id rest events reply × Effects events (λ calls. Asks at calls at) held clock clock drawn
  uncalled bound at clock why reply asks replies none-held none-drawn = (
    [],
    uncalled_by bound at (record { before = clock; after = clock }) why reply asks replies,
    no_effects (λ calls. Asks at calls at) held clock drawn (asks_none at) none-held none-drawn,
  )
