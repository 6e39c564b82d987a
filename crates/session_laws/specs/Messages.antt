-- Messages that are published: what the request is answered, and why.
use Rattle.std.specs.Prelude.{◌≡◌, ◌≢◌, ◌+◌, ◌⊎◌, ℕ, true, false, List, [], ◌∷◌, ◌++◌, length, Ok}
use Rattle.ledger_core.specs.declared.plan.Aim.{Aim}
use Rattle.ledger_core.specs.declared.command.LedgerCmd.TheVariants.{Accept}
use Rattle.ledger_core.specs.declared.reply.LedgerReply.{LedgerReply}
use Rattle.ledger_core.specs.declared.reply.LedgerReply.TheVariants as says
use Rattle.ledger_core.specs.Message.{Step}
use Rattle.ledger_core.specs.Size.{exceeds, new_bytes, new_rows}
use Rattle.ledger_core.specs.Course.{bytes_in, course_of, rows_in}
use Rattle.resource_spec.specs.Component.{Loaded}
use Rattle.resource_spec.specs.declared.component.ComponentKind.TheVariants.{PubsubMemory}
use Rattle.cloud_events.specs.declared.sent.EventErr.{EventErr}
use Rattle.cloud_events.specs.declared.sent.EventErr.TheVariants.{NoMemory}
use Rattle.cloud_events.specs.declared.sent.Sent.{Sent}
use Rattle.cloud_events.specs.Wrapped.{IsRefused}
use Rattle.topic_spec.specs.Scopes.{may_publish}
use Rattle.pubsub_api.specs.Publishing.{IsAccept, forbidden, full, no_event, sent_by, taken, unknown_pubsub}
use Rattle.sidecar_objects.specs.declared.doing.Doing.{Doing}
use Rattle.sidecar_objects.specs.declared.doing.Doing.TheVariants as doing
use Rattle.sidecar_objects.specs.declared.doing.SlotStep.TheVariants as slot
use Rattle.sidecar_core.specs.Named.{IsNamed, IsNone, ledger_of}
use Rattle.session_laws.specs.Served.{HasExhausted, HasNoMemory, IsFresh, Served}

-- two random words are drawn, and then a moment is read
abbrev pub stamped : ℕ → ℕ → ℕ → List Doing
stamped first second at = doing.Drew first ∷ doing.Drew second ∷ doing.Timed at ∷ []

-- After these entries of its history a ledger has no room for an event: with its rows there are so many, of so many bytes, and that is too much
pub record HasNoRoom (before : List Step) (entry : Step) (rows bytes : ℕ) : Type 0 where
  pub event : List ℕ
  pub aims : List Aim
  pub now : ℕ
  pub given : entry.cmd ≡ Accept event aims now
  pub rows_are : rows ≡ rows_in (course_of before).book + new_rows aims
  pub bytes_are : bytes ≡ bytes_in (course_of before).book + new_bytes (length event) aims
  pub too_many : exceeds rows bytes ≡ true

module _ {O : Type 0} (pubsub topic : List ℕ) (served : Served O) where
  -- the pub/sub component of this name
  pub record IsBroker (place : ℕ) (component : Loaded) : Type 0 where
    pub named : IsNamed served.config pubsub place component
    pub kind : component.kind ≡ PubsubMemory

  abbrev pub sent_to : Loaded → Sent
  sent_to component = sent_by served.config.app served.request component.name topic

  -- the event of the request was given to the ledger of the component, for the subscriptions that it matches, in one step; it replied so
  pub record IsGiven (reply : LedgerReply) : Type 0 where
    pub place : ℕ
    pub component : Loaded
    pub broker : IsBroker place component
    pub allowed : may_publish component served.config.app topic ≡ true
    pub first : ℕ
    pub second : ℕ
    pub at : ℕ
    pub step : Step
    pub accept : IsAccept served.config.subs (sent_to component) (record { first = first; second = second; at = at }) step
    pub whole : served.events ≡ stamped first second at ++ doing.Stepped (slot.Ledger (ledger_of served.config place) step) ∷ []
    pub says : step.reply ≡ reply

  -- the body of the request becomes no event
  pub record IsNoEvent (why : EventErr) : Type 0 where
    pub place : ℕ
    pub component : Loaded
    pub broker : IsBroker place component
    pub other : why ≢ NoMemory
    pub refused : IsRefused (sent_to component) why

  -- Why a request to publish is answered so. For want of memory there is no cause
  pub data IsMessageAnswered : Type 0 where
    unknown : IsNone PubsubMemory served.config pubsub → served.events ≡ [] → served.reply ≡ Ok (unknown_pubsub pubsub) → IsMessageAnswered
    denied : (place : ℕ) (component : Loaded) → IsBroker place component → may_publish component served.config.app topic ≡ false → served.events ≡ [] → served.reply ≡ Ok (forbidden topic) → IsMessageAnswered
    no_event_in : (first second at : ℕ) (why : EventErr) → IsNoEvent why → served.events ≡ stamped first second at → served.reply ≡ Ok (no_event why) → IsMessageAnswered
    full_at : (rows bytes : ℕ) → IsGiven (says.Full rows bytes) → served.reply ≡ Ok (full rows bytes) → IsMessageAnswered
    accepted : (number : ℕ) → IsGiven (says.Accepted number) → served.reply ≡ Ok taken → IsMessageAnswered
    exhausted : HasExhausted served → IsMessageAnswered
    lacks : HasNoMemory served → IsMessageAnswered

  -- the component is there, its scopes allow the topic, and the body becomes an event
  pub record IsMessageAsked : Type 0 where
    pub place : ℕ
    pub component : Loaded
    pub broker : IsBroker place component
    pub allowed : may_publish component served.config.app topic ≡ true
    pub an_event : (why : EventErr) → ¬ IsNoEvent why

  -- the ledger took the message, and the answer is 204
  pub record IsTaken : Type 0 where
    pub number : ℕ
    pub given : IsGiven (says.Accepted number)
    pub said : served.reply ≡ Ok taken

  -- where this is so, no cell is exhausted, and the ledger is not full, it took the message and the answer is 204, or there was no memory
  abbrev pub IsAnsweredWhereAllIsWell : Type 0
  IsAnsweredWhereAllIsWell = IsMessageAsked → IsFresh served → ((rows bytes : ℕ) → ¬ IsGiven (says.Full rows bytes)) → IsTaken ⊎ HasNoMemory served
