-- The parts of a turn, as the code makes them: taking a row, posting its event, choosing how it is settled, and settling it.
use Rattle.std.specs.Prelude.{◌≡◌, ◌<◌, ◌+◌, ◌⊎◌, ⊤, ℕ, true, List, [], Option, Some, None}
use Rattle.side_base.specs.declared.message.Response.{Response}
use Rattle.retry_core.specs.declared.policy.Bound.{Bound}
use Rattle.ledger_core.specs.declared.plan.Aim.{Aim}
use Rattle.ledger_core.specs.declared.command.Finish.TheVariants as finish
use Rattle.ledger_core.specs.declared.command.LedgerCmd.{LedgerCmd}
use Rattle.ledger_core.specs.declared.command.LedgerCmd.TheVariants.{Take}
use Rattle.ledger_core.specs.declared.reply.LedgerReply.{LedgerReply}
use Rattle.ledger_core.specs.declared.reply.LedgerReply.TheVariants as says
use Rattle.ledger_core.specs.Aims.{AreAims}
use Rattle.cloud_events.specs.declared.outcome.Verdict.{Verdict}
use Rattle.topic_spec.specs.declared.sub.Sub.{Sub}
use Rattle.policy_run.specs.declared.outcome.Outcome.{Outcome}
use Rattle.policy_run.specs.declared.outcome.Outcome.TheVariants as outcome
use Rattle.policy_run.specs.declared.outcome.Refusal.TheVariants as refusal
use Rattle.policy_run.specs.Event.{Event}
use Rattle.breaker_core.specs.Course.{Step as BreakerStep}
use Rattle.policy_run.specs.Effects.{Made, Times}
use Rattle.policy_run.specs.Turn.{Asks, reply_of}
use Rattle.link_call.specs.LinkAt.{Links}
use Rattle.link_call.specs.declared.miss.Miss.{Miss}
use Rattle.link_call.specs.declared.miss.Miss.TheVariants as miss
use Rattle.delivery_turn.specs.declared.deliveries.Deliveries.{Deliveries}
use Rattle.delivery_turn.specs.declared.settling.Early.{Early}
use Rattle.delivery_turn.specs.declared.settling.Early.TheVariants as early
use Rattle.delivery_turn.specs.declared.settling.Settling.{Settling}
use Rattle.delivery_turn.specs.declared.settling.Settling.TheVariants.{Concluded, Postponed, LetGo}
use Rattle.delivery_turn.specs.declared.taking.Taking.{Taking}
use Rattle.delivery_turn.specs.declared.taking.Taking.TheVariants as taking
use Rattle.delivery_turn.specs.declared.ending.Turn.{Turn}
use Rattle.delivery_turn.specs.declared.ending.Turn.TheVariants as turn
use Rattle.delivery_turn.specs.Settling.{Own, Answered, Stuck, Row, settle, Settles, LetsGo, postponed, at_once}
use Rattle.delivery_turn.specs.Posting.{HasLetter, IsJudged, MayLack, finish_of, Draws, replied, missed, lacked}
use Rattle.delivery_turn.specs.Delivery.{Setting, guarded, Unheard, Tried, Untold, Takes, Delivery}
use Rattle.delivery_turn.specs.Stepping.{AsksApp}

-- what a turn stands on
abbrev pub setting_of : Deliveries → Setting
setting_of d = record { port = d.port; subs = d.subs.now; bound = d.bound.now }

-- there are events that are a turn which came to this, and which had these effects
abbrev pub DeliversBy : Setting → Turn → (List Own → Type 0) → (List BreakerStep → Type 0) → Times → (List ℕ → Type 0) → Type 0
DeliversBy setting came did held clock drawn = Made (λ events. Delivery setting events came) did held clock drawn

-- ---- taking

-- no row was taken, and the turn ends so
pub data TakesNone (events : List (Event Own)) (came : Turn) : Type 0 where
  idle : (next : Option ℕ) → Answered Take (says.Idle next) events → came ≡ turn.Idle next → TakesNone events came
  lacks : Answered Take says.NoMemory events → came ≡ turn.Held → TakesNone events came
  exhausted : (count : ℕ) → Stuck events → came ≡ turn.Exhausted count → TakesNone events came

abbrev pub TakesBy : Taking → List (Event Own) → Type 0
TakesBy (taking.Row row) events = (attempt : ℕ) × Takes row attempt events
TakesBy (taking.Ended came) events = TakesNone events came

abbrev pub taking_of : LedgerReply → Taking
taking_of (says.Taken number sub claim event path attempt) = taking.Row (record { no = number; sub = sub; claim = claim; event = event; path = path })
taking_of (says.Idle next) = taking.Ended (turn.Idle next)
taking_of other = taking.Ended turn.Held

-- ---- posting

-- what is bound to one attempt
abbrev pub once : Bound → Bound
once bound = record { timeout_ms = bound.timeout_ms; retry = None; breaker = bound.breaker }

-- what the post of a row came to: a reply, or none; or a refusal of the breaker, or its exhausted cell; or there was no memory, before or after the app was asked
abbrev pub PostsBy : Setting → Row → Outcome Response Miss → List (Event Own) → Type 0
PostsBy setting row (outcome.Good response) events = Tried setting row (replied response) events
PostsBy setting row (outcome.Bad (miss.Replied response)) events = Tried setting row (replied response) events
PostsBy setting row (outcome.Bad miss.Failed) events = Tried setting row missed events
PostsBy setting row (outcome.Bad miss.Expired) events = Tried setting row missed events
PostsBy setting row (outcome.Refused why) events = (guarded setting ≡ true) × Asks (reply_of why) events
PostsBy setting row (outcome.Exhausted count) events = Unheard setting events ⊎ Untold setting row events
PostsBy setting row outcome.NoMemory events = (events ≡ []) ⊎ Tried setting row lacked events

-- there are events by which a post came to this, and which had these effects; of its own it asked the link alone
abbrev pub PostedBy : Setting → Row → Outcome Response Miss → Links → (List BreakerStep → Type 0) → Times → (List ℕ → Type 0) → Type 0
PostedBy setting row came link held clock drawn = Made (λ events. PostsBy setting row came events) (AsksApp link.before link.after) held clock drawn

-- ---- choosing

-- a reply gives a verdict, by which the row is settled; or some memory was wanted, and there is none
pub data Judges (subs : List Sub) (row : Row) (response : Response) (settling : Settling) (events : List (Event Own)) : Type 0 where
  judged : (v : Verdict) (drawn : ℕ) (dead : List Aim) → IsJudged response v → settling ≡ Concluded (finish_of v) drawn dead → Draws subs row (finish_of v) drawn dead events → Judges subs row response settling events
  lacks : MayLack subs row (replied response) → settling ≡ LetGo early.Held → events ≡ [] → Judges subs row response settling events

-- without a reply it is delivered again; there may be no memory for the dead letter
pub data Retries (subs : List Sub) (row : Row) (settling : Settling) (events : List (Event Own)) : Type 0 where
  again : (drawn : ℕ) (dead : List Aim) → settling ≡ Concluded finish.Retry drawn dead → Draws subs row finish.Retry drawn dead events → Retries subs row settling events
  lacks : HasLetter subs row → settling ≡ LetGo early.Held → events ≡ [] → Retries subs row settling events

-- how a row is settled by what its post came to
abbrev pub Settled : List Sub → Row → Outcome Response Miss → Settling → List (Event Own) → Type 0
Settled subs row (outcome.Good response) settling events = Judges subs row response settling events
Settled subs row (outcome.Bad (miss.Replied response)) settling events = Judges subs row response settling events
Settled subs row (outcome.Bad miss.Failed) settling events = Retries subs row settling events
Settled subs row (outcome.Bad miss.Expired) settling events = Retries subs row settling events
Settled subs row (outcome.Refused why) settling events = (settling ≡ Postponed why) × (events ≡ [])
Settled subs row (outcome.Exhausted count) settling events = (settling ≡ LetGo (early.Exhausted count)) × (events ≡ [])
Settled subs row outcome.NoMemory settling events = (settling ≡ LetGo early.Held) × (events ≡ [])

-- the aims of a dead letter are of different subscriptions, each of which has a plan
abbrev pub AreSettlingAims : ℕ → Settling → Type 0
AreSettlingAims plans (Concluded ends drawn dead) = AreAims plans dead
AreSettlingAims plans (Postponed why) = ⊤
AreSettlingAims plans (LetGo why) = ⊤

-- a breaker is open up to a moment that is at most the last one before the year 10000, and 8,760 hours
abbrev pub IsWithinYears : Settling → Type 0
IsWithinYears (Postponed (refusal.Opened until)) = until < 253402300800000 + 31536000000
IsWithinYears (Postponed (refusal.TooMany out)) = ⊤
IsWithinYears (Concluded ends drawn dead) = ⊤
IsWithinYears (LetGo why) = ⊤

-- ---- settling

abbrev pub early_of : Settling → Option Early
early_of (Concluded ends drawn dead) = None
early_of (Postponed why) = None
early_of (LetGo why) = Some why

-- the command that settles a row at a moment
abbrev pub settle_by : Row → Settling → ℕ → LedgerCmd
settle_by row (Concluded ends drawn dead) now = settle row (λ moment. ends) drawn dead now
settle_by row (Postponed why) now = settle row (postponed why) 0 [] now
settle_by row (LetGo why) now = settle row at_once 0 [] now

abbrev pub delivered : Row → LedgerReply → Turn
delivered row says.NoMemory = turn.Held
delivered row other = turn.Delivered row.no row.sub other

-- what the turn comes to, by the ledger's reply
abbrev pub turn_by : Row → Option Early → LedgerReply → Turn
turn_by row None reply = delivered row reply
turn_by row (Some early.Held) reply = turn.Held
turn_by row (Some (early.Exhausted count)) reply = turn.Exhausted count

abbrev pub SettlesSo : Row → Settling → Turn → List (Event Own) → Type 0
SettlesSo row (Concluded ends drawn dead) came events = Settles row (λ moment. ends) drawn dead events came
SettlesSo row (Postponed why) came events = Settles row (postponed why) 0 [] events came
SettlesSo row (LetGo early.Held) came events = LetsGo row turn.Held events came
SettlesSo row (LetGo (early.Exhausted count)) came events = LetsGo row (turn.Exhausted count) events came
