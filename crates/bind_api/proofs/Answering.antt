-- What a request to a binding does and is answered, put together from its parts.
use Rattle.std.proofs.Common.{◌≡◌, ◌≤◌, ◌<◌, ◌&&◌, nat_le, ℕ, Bool, true, false, cond, codes, decimal, List, [], ◌∷◌, ◌++◌, Option, Some, None, Result, Ok, Err, inl, inr, refl, sym, subst, arith}
use Rattle.std.specs.Prelude.{IfOk}
use Rattle.side_base.specs.declared.message.LinkRequest.{LinkRequest}
use Rattle.side_base.specs.declared.message.Request.{Request}
use Rattle.side_base.specs.declared.message.Response.{Response}
use Rattle.side_world.specs.declared.link.LinkCall.{LinkCall}
use Rattle.turn_cell.specs.declared.error.ApiErr.{ApiErr}
use Rattle.turn_cell.specs.declared.error.ApiErr.TheVariants as error
use Rattle.breaker_core.specs.Course.{Step}
use Rattle.retry_core.specs.declared.policy.Bound.{Bound}
use Rattle.policy_run.specs.declared.outcome.Outcome.{Outcome}
use Rattle.policy_run.specs.declared.outcome.Outcome.TheVariants.{Good, Bad, Refused, Exhausted, NoMemory}
use Rattle.policy_run.specs.Event.{Event}
use Rattle.policy_run.specs.Effects.{Clocked, Effects, Times}
use Rattle.policy_run.proofs.Composed.{no_effects}
use Rattle.link_call.specs.declared.miss.Miss.{Miss}
use Rattle.link_call.specs.declared.miss.Miss.TheVariants.{Failed, Expired, Replied}
use Rattle.link_call.specs.Came.{Came, IsOr}
use Rattle.link_call.specs.Cause.{HasCause}
use Rattle.link_call.specs.LinkAt.{Asks, LinkAt, asks_none}
use Rattle.resource_spec.specs.Component.{Loaded}
use Rattle.bind_api.specs.declared.malformed.AskErr.{AskErr}
use Rattle.bind_api.specs.declared.malformed.AskErr.TheVariants as unasked
use Rattle.bind_api.specs.Binding.{AsksOf, BindingReplies, Binds, UnaskedReplies, called, lacks, not_bound, refused, taken_with, told}

-- ---- the status of a response

abbrev pub HasStatus : Response → Type 0
HasStatus response = (200 ≤ response.status) × (response.status ≤ 599)

given_so : (response : Response) (reply : Result Response ApiErr) → IsOr response reply → HasStatus response → IfOk reply HasStatus
given_so response reply (inl is) status = subst (λ (r : Result Response ApiErr). IfOk r HasStatus) (sym is) status
given_so response reply (inr lacking) status = subst (λ (r : Result Response ApiErr). IfOk r HasStatus) (sym lacking) tt

ended_so : (e : ApiErr) (reply : Result Response ApiErr) → reply ≡ Err e → IfOk reply HasStatus
ended_so e reply is = subst (λ (r : Result Response ApiErr). IfOk r HasStatus) (sym is) tt

taken_status : (response : Response) (body : List ℕ) → HasStatus (taken_with response body)
taken_status response [] = (omega arith, omega arith)
taken_status response (byte ∷ bytes) = (omega arith, omega arith)

told_by : (response : Response) (good : Bool) → HasStatus (cond good (taken_with response response.body) (not_bound (codes "status " ++ decimal response.status)))
told_by response true = taken_status response response.body
told_by response false = (omega arith, omega arith)

told_status : (response : Response) → HasStatus (told response)
told_status response = told_by response (nat_le 200 response.status && nat_le response.status 299)

pub status_so : (bound : Bound) (at at' : LinkAt) (clock clock' : Clocked) (outcome : Outcome Response Miss) (reply : Result Response ApiErr) → HasCause bound outcome at at' clock clock' → BindingReplies outcome reply → IfOk reply HasStatus
status_so bound at at' clock clock' (Good response) reply cause replies = given_so _ reply replies (told_status response)
status_so bound at at' clock clock' (Bad Failed) reply cause replies = given_so _ reply replies (omega arith, omega arith)
status_so bound at at' clock clock' (Bad Expired) reply cause replies = given_so _ reply replies (omega arith, omega arith)
status_so bound at at' clock clock' (Bad (Replied response)) reply cause replies = given_so _ reply replies (told_status response)
status_so bound at at' clock clock' (Refused refusal) reply cause replies = given_so _ reply replies (omega arith, omega arith)
status_so bound at at' clock clock' (Exhausted count) reply cause replies = ended_so (error.Exhausted count) reply replies
status_so bound at at' clock clock' NoMemory reply cause replies = ended_so error.NoMemory reply replies

pub unasked_status : (why : AskErr) (reply : Result Response ApiErr) → UnaskedReplies why reply → IfOk reply HasStatus
unasked_status (unasked.Malformed what) reply replies = given_so _ reply replies (omega arith, omega arith)
unasked_status unasked.NoMemory reply replies = ended_so error.NoMemory reply replies

-- ---- an exhausted cell

not_given : (response : Response) (reply : Result Response ApiErr) (count : ℕ) → IsOr response reply → reply ≡ Err (error.Exhausted count) → ⊥
not_given response reply count (inl is) ended = absurd (cc (is, ended))
not_given response reply count (inr lacking) ended = absurd (cc (lacking, ended))

pub shows_count : (shows : ℕ → Type 0) (outcome : Outcome Response Miss) (reply : Result Response ApiErr) → BindingReplies outcome reply → ((count : ℕ) → outcome ≡ Exhausted count → shows count) → (count : ℕ) → reply ≡ Err (error.Exhausted count) → shows count
shows_count shows (Good response) reply replies guard count ended = absurd (not_given _ reply count replies ended)
shows_count shows (Bad Failed) reply replies guard count ended = absurd (not_given _ reply count replies ended)
shows_count shows (Bad Expired) reply replies guard count ended = absurd (not_given _ reply count replies ended)
shows_count shows (Bad (Replied response)) reply replies guard count ended = absurd (not_given _ reply count replies ended)
shows_count shows (Refused refusal) reply replies guard count ended = absurd (not_given _ reply count replies ended)
shows_count shows (Exhausted n) reply replies guard count ended = guard count (cc (replies, ended))
shows_count shows NoMemory reply replies guard count ended = absurd (cc (replies, ended))

pub unasked_count : (shows : ℕ → Type 0) (why : AskErr) (reply : Result Response ApiErr) → UnaskedReplies why reply → (count : ℕ) → reply ≡ Err (error.Exhausted count) → shows count
unasked_count shows (unasked.Malformed what) reply replies count ended = absurd (not_given _ reply count replies ended)
unasked_count shows unasked.NoMemory reply replies count ended = absurd (cc (replies, ended))

-- ---- what is done

module _ (component : Loaded) (request : Request) (held : List Step → Type 0) (drawn : List ℕ → Type 0) where
  -- what was asked came to this
  pub called_so : (bound : Bound) (at at' : LinkAt) (clock : Times) (asked : LinkRequest) (outcome : Outcome Response Miss) (reply : Result Response ApiErr)
      → AsksOf component request.body (Ok asked) → BindingReplies outcome reply
      → ((events : List (Event LinkCall)) × Came bound at at' clock asked events outcome × Effects events (λ calls. Asks at calls at') held clock.before clock.after drawn)
      → (events : List (Event LinkCall)) × Binds (Came bound at at' clock) component request events reply × Effects events (λ calls. Asks at calls at') held clock.before clock.after drawn
  called_so bound at at' clock asked outcome reply asks replies came = (
    came.0,
    called asks.0 asks.1 asks.2 asks.3 (record { outcome = outcome; came = subst (λ a. Came bound at at' clock a came.0 outcome) asks.4 came.1; replies = replies }),
    came.2,
  )

  uncalled_by : (bound : Bound) (at : LinkAt) (clock : Times) (why : AskErr) (reply : Result Response ApiErr) → AsksOf component request.body (Err why) → UnaskedReplies why reply → Binds (Came bound at at clock) component request [] reply
  uncalled_by bound at clock (unasked.Malformed what) reply asks replies = refused what asks (refl, replies)
  uncalled_by bound at clock unasked.NoMemory reply asks replies = lacks (refl, replies)

  -- nothing was asked
  pub uncalled : (bound : Bound) (at : LinkAt) (clock : Clocked) (why : AskErr) (reply : Result Response ApiErr) → AsksOf component request.body (Err why) → UnaskedReplies why reply → held [] → drawn []
      → (events : List (Event LinkCall)) × Binds (Came bound at at (record { before = clock; after = clock })) component request events reply × Effects events (λ calls. Asks at calls at) held clock clock drawn
  uncalled bound at clock why reply asks replies none-held none-drawn = (
    [],
    uncalled_by bound at (record { before = clock; after = clock }) why reply asks replies,
    no_effects (λ calls. Asks at calls at) held clock drawn (asks_none at) none-held none-drawn,
  )
