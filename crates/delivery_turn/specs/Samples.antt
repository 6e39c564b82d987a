-- Turns of deliveries written out: an event that the app wants again until it is given up, and the letter that it becomes; deliveries that a breaker
-- refuses, or that get no reply; and turns that are none.
use Rattle.std.specs.Prelude.{ℕ, false, List, [], ◌∷◌, ◌++◌, codes, Some, None, Result, Ok, Err}
use Rattle.retry_core.specs.declared.policy.RetryPolicy.{RetryPolicy}
use Rattle.retry_core.specs.declared.policy.RetryKind.TheVariants.{Constant}
use Rattle.side_base.specs.declared.method.Method.TheVariants.{Post}
use Rattle.side_base.specs.declared.message.Response.{Response}
use Rattle.side_world.specs.declared.link.LinkCall.{LinkCall}
use Rattle.side_world.specs.declared.link.LinkErr.{LinkErr}
use Rattle.side_world.specs.declared.link.LinkErr.TheVariants.{Failed}
use Rattle.breaker_core.specs.declared.command.BreakerCmd.{BreakerCmd}
use Rattle.breaker_core.specs.declared.command.BreakerCmd.TheVariants.{Admit, Report}
use Rattle.breaker_core.specs.declared.command.BreakerReply.{BreakerReply}
use Rattle.breaker_core.specs.declared.command.BreakerReply.TheVariants.{Admitted, Counted}
use Rattle.breaker_core.specs.Course.{Step as BreakerStep}
use Rattle.ledger_core.specs.declared.plan.Aim.{Aim}
use Rattle.ledger_core.specs.declared.command.Finish.TheVariants.{Success, Retry, Later}
use Rattle.ledger_core.specs.declared.command.LedgerCmd.{LedgerCmd}
use Rattle.ledger_core.specs.declared.command.LedgerCmd.TheVariants.{Take, Settle}
use Rattle.ledger_core.specs.declared.reply.LedgerReply.{LedgerReply}
use Rattle.ledger_core.specs.declared.reply.LedgerReply.TheVariants.{Taken, Idle, NotTaken, Done, Again}
use Rattle.ledger_core.specs.Message.{Step}
use Rattle.topic_spec.specs.declared.sub.Rule.{Rule}
use Rattle.topic_spec.specs.declared.sub.Sub.{Sub}
use Rattle.policy_run.specs.Event.{Event, own, guarded, word, moment}
use Rattle.delivery_turn.specs.Settling.{Own, entered, asked}
use Rattle.delivery_turn.specs.Delivery.{Setting}

-- ---- the subscriptions, and what is bound

-- whatever its rules are
abbrev pub orders : List Rule → Sub
orders rules = record { pubsub = codes "pubsub"; topic = codes "orders"; rules = rules; default = Some (codes "/orders"); dead = Some (codes "dead") }

abbrev pub letters : Sub
letters = record { pubsub = codes "pubsub"; topic = codes "dead"; rules = []; default = Some (codes "/dead"); dead = None }

-- two further attempts, 100 ms apart
abbrev pub few : RetryPolicy
few = record { kind = Constant 100; max_retries = Some 2 }

abbrev pub shop : List Rule → Setting
shop rules = record { port = 8080; subs = orders rules ∷ letters ∷ []; bound = record { timeout_ms = None; retry = Some few; breaker = None } }

abbrev pub guarded_shop : List Rule → Setting
guarded_shop rules = record { port = 8080; subs = orders rules ∷ letters ∷ []; bound = record { timeout_ms = None; retry = Some few; breaker = Some 0 } }

-- a call may take 50 ms
abbrev pub hurried_shop : List Rule → Setting
hurried_shop rules = record { port = 8080; subs = orders rules ∷ letters ∷ []; bound = record { timeout_ms = Some 50; retry = Some few; breaker = None } }

-- an event for the first subscription
abbrev pub order_event : List ℕ
order_event = codes "{\"data\":{\"n\":1},\"id\":\"7\",\"pubsubname\":\"pubsub\",\"source\":\"shop\",\"specversion\":\"1.0\",\"time\":\"1970-01-01T00:00:00Z\",\"topic\":\"orders\",\"type\":\"com.dapr.event.sent\"}"

-- ---- steps and calls

abbrev pub ledger_step : LedgerCmd → LedgerReply → Step
ledger_step cmd reply = record { seat = 0; cmd = cmd; reply = reply; mark = 0 }

abbrev pub stepped : LedgerCmd → LedgerReply → Event Own
stepped cmd reply = own (entered (ledger_step cmd reply))

-- the event is posted to the path within the limit, and the app answers so
abbrev pub post_of : ℕ → List ℕ → List ℕ → Result Response LinkErr → LinkCall
post_of limit path event answer = record {
  request = record {
    host = codes "127.0.0.1";
    port = 8080;
    method = Post;
    target = path;
    fields = record { name = codes "Content-Type"; value = codes "application/cloudevents+json" } ∷ [];
    body = event;
  };
  limit_ms = limit;
  answer = answer;
}

-- the app wants the event again
abbrev pub wants_again : Response
wants_again = record { status = 200; fields = []; body = codes "{\"status\":\"RETRY\"}" }

abbrev pub accepts : Response
accepts = record { status = 200; fields = []; body = [] }

-- ---- message 1 to the first subscription, and message 2 to the second

-- the letter is for the second subscription
abbrev pub letter_aims : List Aim
letter_aims = record { sub = 1; path = Some (codes "/dead") } ∷ []

-- An attempt of this number and claim at a moment: the app wants it again, a word is drawn, and the ledger answers so
abbrev pub attempt_at : ℕ → ℕ → ℕ → List ℕ → LedgerReply → List (Event Own)
attempt_at now number drawn event reply =
    moment now ∷ stepped (Take now) (Taken 1 0 number event (codes "/orders") number)
    ∷ own (asked (post_of 0 (codes "/orders") event (Ok wants_again)))
    ∷ word drawn
    ∷ moment now ∷ stepped (Settle 1 0 number Retry now drawn letter_aims) reply
    ∷ []

-- the letter is accepted
abbrev pub letter_at : ℕ → ℕ → List ℕ → List (Event Own)
letter_at now claim event =
    moment now ∷ stepped (Take now) (Taken 2 1 claim event (codes "/dead") 1)
    ∷ own (asked (post_of 0 (codes "/dead") event (Ok accepts)))
    ∷ moment now ∷ stepped (Settle 2 1 claim Success now 0 []) Done
    ∷ []

-- ---- a delivery that the breaker refuses

abbrev pub breaker_step : BreakerCmd → BreakerReply → BreakerStep
breaker_step cmd reply = record { seat = 0; cmd = cmd; reply = reply; mark = 0 }

-- The breaker is asked at 5 and answers so; the row is settled at 7 as due again at a moment
abbrev pub refused_so : BreakerReply → ℕ → List ℕ → List (Event Own)
refused_so answer due event =
    moment 4 ∷ stepped (Take 4) (Taken 1 0 1 event (codes "/orders") 1)
    ∷ moment 5 ∷ guarded (breaker_step (Admit 5) answer)
    ∷ moment 7 ∷ stepped (Settle 1 0 1 (Later due) 7 0 []) (Again due)
    ∷ []

-- ---- a letter that gets no reply: it has no further dead-letter topic

-- The breaker lets it through at 5, the call fails, the breaker is told at 9, and a word is drawn
abbrev pub failed_so : ℕ → List ℕ → List (Event Own)
failed_so drawn event =
    moment 4 ∷ stepped (Take 4) (Taken 2 1 1 event (codes "/dead") 1)
    ∷ moment 5 ∷ guarded (breaker_step (Admit 5) (Admitted 0 false))
    ∷ own (asked (post_of 0 (codes "/dead") event (Err Failed)))
    ∷ moment 9 ∷ guarded (breaker_step (Report 0 9 false) Counted)
    ∷ word drawn
    ∷ moment 9 ∷ stepped (Settle 2 1 1 Retry 9 drawn []) (Again 1009)
    ∷ []

-- the call may take 50 ms, and its reply, whatever it is, comes 51 ms after it was made
abbrev pub late_so : ℕ → List ℕ → Response → List (Event Own)
late_so drawn event response =
    moment 4 ∷ stepped (Take 4) (Taken 2 1 1 event (codes "/dead") 1)
    ∷ moment 5 ∷ own (asked (post_of 50 (codes "/dead") event (Ok response))) ∷ moment 56
    ∷ word drawn
    ∷ moment 56 ∷ stepped (Settle 2 1 1 Retry 56 drawn []) (Again 1056)
    ∷ []

-- ---- turns that are none

-- a further settling behind an attempt
abbrev pub settled_twice : ℕ → List ℕ → List (Event Own)
settled_twice drawn event = attempt_at 0 1 drawn event (Again 100) ++ moment 0 ∷ stepped (Settle 1 0 1 Success 0 0 []) NotTaken ∷ []

-- a call that failed, of which the breaker that let it through is not told
abbrev pub unreported : ℕ → List ℕ → List (Event Own)
unreported drawn event =
    moment 4 ∷ stepped (Take 4) (Taken 2 1 1 event (codes "/dead") 1)
    ∷ moment 5 ∷ guarded (breaker_step (Admit 5) (Admitted 0 false))
    ∷ own (asked (post_of 0 (codes "/dead") event (Err Failed)))
    ∷ word drawn
    ∷ moment 9 ∷ stepped (Settle 2 1 1 Retry 9 drawn []) (Again 1009)
    ∷ []

-- a call before a row is taken, and a call where none was
abbrev pub called_first : List ℕ → List (Event Own)
called_first event =
    own (asked (post_of 0 (codes "/dead") event (Ok accepts)))
    ∷ moment 4 ∷ stepped (Take 4) (Taken 2 1 1 event (codes "/dead") 1)
    ∷ moment 9 ∷ stepped (Settle 2 1 1 Success 9 0 []) Done
    ∷ []

abbrev pub called_idly : List ℕ → List (Event Own)
called_idly event = moment 4 ∷ stepped (Take 4) (Idle None) ∷ own (asked (post_of 0 (codes "/dead") event (Ok accepts))) ∷ []

-- a settling with `Retry` that draws no word, and one with `Success` that draws one
abbrev pub undrawn : List ℕ → List (Event Own)
undrawn event =
    moment 4 ∷ stepped (Take 4) (Taken 2 1 1 event (codes "/dead") 1)
    ∷ own (asked (post_of 0 (codes "/dead") event (Err Failed)))
    ∷ moment 9 ∷ stepped (Settle 2 1 1 Retry 9 0 []) (Again 1009)
    ∷ []

abbrev pub overdrawn : ℕ → List ℕ → List (Event Own)
overdrawn drawn event =
    moment 4 ∷ stepped (Take 4) (Taken 2 1 1 event (codes "/dead") 1)
    ∷ own (asked (post_of 0 (codes "/dead") event (Ok accepts)))
    ∷ word drawn
    ∷ moment 9 ∷ stepped (Settle 2 1 1 Success 9 drawn []) Done
    ∷ []

-- a settling with `Success` that is answered as one with `Retry`
abbrev pub misanswered : List ℕ → List (Event Own)
misanswered event =
    moment 4 ∷ stepped (Take 4) (Taken 2 1 1 event (codes "/dead") 1)
    ∷ own (asked (post_of 0 (codes "/dead") event (Ok accepts)))
    ∷ moment 9 ∷ stepped (Settle 2 1 1 Success 9 0 []) (Again 1009)
    ∷ []
