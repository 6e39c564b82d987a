-- A turn of delivery on one ledger: a row is taken, let through by the breaker, posted to the app once, and settled.
use Rattle.std.specs.Prelude.{◌≡◌, ℕ, Bool, true, List, [], ◌++◌, Option, is_some, Result}
use Rattle.retry_core.specs.declared.policy.Bound.{Bound}
use Rattle.side_base.specs.declared.message.Response.{Response}
use Rattle.side_world.specs.declared.link.LinkErr.{LinkErr}
use Rattle.ledger_core.specs.declared.plan.Aim.{Aim}
use Rattle.ledger_core.specs.declared.command.Finish.{Finish}
use Rattle.ledger_core.specs.declared.command.LedgerCmd.TheVariants.{Take}
use Rattle.ledger_core.specs.declared.reply.LedgerReply.TheVariants as says
use Rattle.topic_spec.specs.declared.sub.Sub.{Sub}
use Rattle.policy_run.specs.declared.outcome.Refusal.{Refusal}
use Rattle.policy_run.specs.Event.{Event}
use Rattle.policy_run.specs.Attempts.{limit_of}
use Rattle.policy_run.specs.Turn.{Asks, LetsThrough, IsReported, reply_of}
use Rattle.delivery_turn.specs.declared.ending.Turn.{Turn}
use Rattle.delivery_turn.specs.declared.ending.Turn.TheVariants.{Idle, Held, Exhausted}
use Rattle.delivery_turn.specs.Settling.{Own, Answered, Stuck, Row, Settles, LetsGo, postponed}
use Rattle.delivery_turn.specs.Posting.{Heard, heard, is_good, Posts, IsFinish, MayLack, Draws}

-- what a turn stands on: the app's port, the subscriptions, and what is bound to deliveries of the ledger's component
pub record Setting : Type 0 where
  pub port : ℕ
  pub subs : List Sub
  pub bound : Bound

-- a breaker guards the deliveries
abbrev pub guarded : Setting → Bool
guarded setting = is_some setting.bound.breaker

-- the breaker's cell was exhausted, where it was to be asked or told
abbrev pub Unheard : Setting → List (Event Own) → Type 0
Unheard setting events = (guarded setting ≡ true) × Stuck events

-- With a breaker the delivery was let through, and the app was asked
pub record Sent (setting : Setting) (row : Row) (generation : ℕ) (what : Heard) (events : List (Event Own)) : Type 0 where
  pub admission : List (Event Own)
  pub post : List (Event Own)
  pub answer : Result Response LinkErr
  pub late : Bool
  pub admitted : LetsThrough (guarded setting) generation admission
  pub posted : Posts setting.port (limit_of setting.bound) row answer late post
  pub is_heard : what ≡ heard answer late
  pub whole : events ≡ admission ++ post

-- What was heard of the app was reported to the breaker
pub record Tried (setting : Setting) (row : Row) (what : Heard) (events : List (Event Own)) : Type 0 where
  pub generation : ℕ
  pub call : List (Event Own)
  pub report : List (Event Own)
  pub sent : Sent setting row generation what call
  pub reported : IsReported (guarded setting) generation (is_good what) report
  pub whole : events ≡ call ++ report

-- The breaker's cell was exhausted as it was to be told
pub record Untold (setting : Setting) (row : Row) (events : List (Event Own)) : Type 0 where
  pub generation : ℕ
  pub what : Heard
  pub call : List (Event Own)
  pub stuck : List (Event Own)
  pub sent : Sent setting row generation what call
  pub unheard : Unheard setting stuck
  pub whole : events ≡ call ++ stuck

-- The delivery is settled by what was heard
pub record Concludes (setting : Setting) (row : Row) (what : Heard) (events : List (Event Own)) (turn : Turn) : Type 0 where
  pub finish : Finish
  pub drawn : ℕ
  pub dead : List Aim
  pub draw : List (Event Own)
  pub settling : List (Event Own)
  pub is_finish : IsFinish what finish
  pub draws : Draws setting.subs row finish drawn dead draw
  pub settles : Settles row (λ now. finish) drawn dead settling turn
  pub whole : events ≡ draw ++ settling

-- The breaker did not let the delivery through, and it is postponed
pub record Postponed (setting : Setting) (row : Row) (events : List (Event Own)) (turn : Turn) : Type 0 where
  pub refusal : Refusal
  pub asks : List (Event Own)
  pub settling : List (Event Own)
  pub guards : guarded setting ≡ true
  pub refused : Asks (reply_of refusal) asks
  pub settles : Settles row (postponed refusal) 0 [] settling turn
  pub whole : events ≡ asks ++ settling

-- What is done with a row that was taken
pub data Delivers (setting : Setting) (row : Row) (events : List (Event Own)) (turn : Turn) : Type 0 where
  tried : (what : Heard) (first rest : List (Event Own)) → Tried setting row what first → Concludes setting row what rest turn → events ≡ first ++ rest → Delivers setting row events turn
  refused : Postponed setting row events turn → Delivers setting row events turn
  -- there is no memory for the request, which is made before the breaker is asked
  unmade : LetsGo row Held events turn → Delivers setting row events turn
  -- there is none for the link, for the reply's body, or for the dead letter; where none of these was wanted, the row is settled by what was heard
  cut_short : (what : Heard) (first rest : List (Event Own)) → Tried setting row what first → MayLack setting.subs row what → LetsGo row Held rest turn → events ≡ first ++ rest → Delivers setting row events turn
  -- the breaker's cell is exhausted as it is to be asked, or to be told
  unasked : (count : ℕ) (first rest : List (Event Own)) → Unheard setting first → LetsGo row (Exhausted count) rest turn → events ≡ first ++ rest → Delivers setting row events turn
  untold : (count : ℕ) (first rest : List (Event Own)) → Untold setting row first → LetsGo row (Exhausted count) rest turn → events ≡ first ++ rest → Delivers setting row events turn

-- the row of that delivery was taken, as its attempt of this number
abbrev pub Takes : Row → ℕ → List (Event Own) → Type 0
Takes row attempt events = Answered Take (says.Taken row.no row.sub row.claim row.event row.path attempt) events

-- A turn: one row is taken, if one is due
pub data Delivery (setting : Setting) (events : List (Event Own)) (turn : Turn) : Type 0 where
  idle : (next : Option ℕ) → Answered Take (says.Idle next) events → turn ≡ Idle next → Delivery setting events turn
  lacks : Answered Take says.NoMemory events → turn ≡ Held → Delivery setting events turn
  exhausted : (count : ℕ) → Stuck events → turn ≡ Exhausted count → Delivery setting events turn
  taken : (row : Row) (attempt : ℕ) (first rest : List (Event Own)) → Takes row attempt first → Delivers setting row rest turn → events ≡ first ++ rest → Delivery setting events turn
