-- What a request to publish is answered, and why.
use Rattle.std.proofs.Common.{◌≡◌, ◌⊎◌, ◌∙◌, ◌+◌, ℕ, true, false, List, [], ◌∷◌, ◌++◌, Option, Some, Ok, inl, inr, refl, sym, ap, subst}
use mathlib.Core.Option.{some}
use lib.ListN.{get_elem?}
use Rattle.side_base.specs.declared.message.Response.{Response}
use Rattle.api_routes.specs.declared.route.Route.TheVariants.{Publish}
use Rattle.resource_spec.specs.Component.{Loaded}
use Rattle.ledger_core.specs.declared.plan.Aim.{Aim}
use Rattle.ledger_core.specs.declared.plan.Plan.{Plan}
use Rattle.ledger_core.specs.declared.command.LedgerCmd.TheVariants.{Accept}
use Rattle.ledger_core.specs.declared.reply.LedgerReply.{LedgerReply}
use Rattle.ledger_core.specs.declared.reply.LedgerReply.TheVariants as says
use Rattle.ledger_core.specs.Message.{Step}
use Rattle.ledger_core.specs.Course.{course_of, rows_in}
use Rattle.ledger_core.specs.Size.{exceeds, new_rows}
use Rattle.ledger_core.specs.Reply.{IsReply}
use Rattle.policy_run.specs.Event.{Event, own}
use Rattle.link_call.specs.Came.{IsOr}
use Rattle.cloud_events.specs.declared.sent.Sent.{Sent}
use Rattle.cloud_events.specs.Wrapped.{IsRefused}
use Rattle.topic_spec.specs.declared.sub.Sub.{Sub}
use Rattle.topic_spec.specs.Scopes.{may_publish}
use Rattle.pubsub_api.specs.declared.publication.Publication.{Publication}
use Rattle.pubsub_api.specs.Publishing as publishing
use Rattle.pubsub_api.specs.Publishing.{AcceptReplies, IsAccept, Publishes, forbidden, full, is_allowed, no_event, sent_by, sent_of, stamps, unknown_pubsub}
use Rattle.sidecar_objects.specs.Kind.{CellsAt, Kinds}
use Rattle.sidecar_core.specs.declared.config.Config.{Config}
use Rattle.sidecar_core.specs.Named.{IsNamed, ledger_of}
use Rattle.sidecar_core.specs.Called.{AtBroker, IsPublication, entered}
use Rattle.sidecar_core.specs.Called as called
use Rattle.sidecar_core.specs.Shown.{some_seat}
use Rattle.session_laws.specs.Served.{HasNoMemory, IsServed, Served}
use Rattle.session_laws.specs.Messages.{HasNoRoom, IsAnsweredWhereAllIsWell, IsBroker, IsGiven, IsMessageAnswered, IsMessageAsked, accepted, denied, full_at, lacks, no_event_in, stamped, unknown}
use Rattle.session_laws.specs.Messages.{exhausted as spent}
use Rattle.session_laws.proofs.Routed.{by_route, exhausted_so}

-- ---- the component of a name is one

-- the same name leads to the same component
same_place : (a b : ℕ) (o : Option ℕ) → o ≡ Some a → o ≡ Some b → a ≡ b
same_place a b o one two = let same : Some a ≡ Some b = sym one ∙ two in cc

same_component : (a b : Loaded) (components : List Loaded) (k j : ℕ) → get_elem? components k ≡ some a → get_elem? components j ≡ some b → k ≡ j → a ≡ b
same_component a b components k j one two same = let both : some a ≡ some b = sym one ∙ (ap (get_elem? components) same ∙ two) in cc

one_named : (config : Config) (name : List ℕ) (k j : ℕ) (a b : Loaded) → IsNamed config name k a → IsNamed config name j b → a ≡ b
one_named config name k j a b one two = same_component a b config.components k j one.there two.there (same_place k j _ one.first two.first)

module _ {O : Type 0} (kinds : Kinds O) (cells : CellsAt O) (pubsub topic : List ℕ) (served : Served O) (is : IsServed kinds cells (Publish pubsub topic) served) where
  said_or : (response : Response) → (served.reply ≡ Ok response → IsMessageAnswered pubsub topic served) → IsOr response served.reply → IsMessageAnswered pubsub topic served
  said_or response so (inl said) = so said
  said_or response so (inr none) = lacks none

  module _ (place : ℕ) (component : Loaded) (broker : IsBroker pubsub topic served place component) (what : Publication) (for : IsPublication served.config served.request component topic what)
      (events : List (Event Step)) (whole : served.events ≡ entered (ledger_of served.config place) events) where
    sent_is : sent_of what ≡ sent_by served.config.app served.request component.name topic
    sent_is = (λ i. sent_by (for.of_app i) (for.of_request i) (ap (λ (c : Loaded). c.name) for.of_component i) (for.of_topic i))

    allowed_is : is_allowed what ≡ may_publish component served.config.app topic
    allowed_is = (λ i. may_publish (for.of_component i) (for.of_app i) (for.of_topic i))

    stamps_are : (first second at : ℕ) → events ≡ stamps (record { first = first; second = second; at = at }) → served.events ≡ stamped first second at
    stamps_are first second at are = whole ∙ ap (entered (ledger_of served.config place)) are

    module _ (first second at : ℕ) (step : Step) (allowed : is_allowed what ≡ true) (accept : IsAccept what.subs.now (sent_of what) (record { first = first; second = second; at = at }) step)
        (are : events ≡ stamps (record { first = first; second = second; at = at }) ++ own step ∷ []) where
      given_so : (reply : LedgerReply) → step.reply ≡ reply → IsGiven pubsub topic served reply
      given_so reply is-reply = record {
        place = place;
        component = component;
        broker = broker;
        allowed = sym allowed_is ∙ allowed;
        first = first;
        second = second;
        at = at;
        step = step;
        accept = subst (λ (sent : Sent). IsAccept served.config.subs sent (record { first = first; second = second; at = at }) step) sent_is (subst (λ (subs : List Sub). IsAccept subs (sent_of what) (record { first = first; second = second; at = at }) step) for.of_subs accept);
        whole = whole ∙ ap (entered (ledger_of served.config place)) are;
        says = is-reply;
      }

      replied_so : (reply : LedgerReply) → step.reply ≡ reply → AcceptReplies reply served.reply → IsMessageAnswered pubsub topic served
      replied_so (says.Accepted number) is-reply said = accepted number (given_so (says.Accepted number) is-reply) said
      replied_so (says.Full rows bytes) is-reply said = said_or (full rows bytes) (full_at rows bytes (given_so (says.Full rows bytes) is-reply)) said
      replied_so says.NoMemory is-reply said = lacks said
      replied_so (says.Taken number sub claim event path attempt) is-reply said = absurd said
      replied_so (says.Idle next) is-reply said = absurd said
      replied_so says.NotTaken is-reply said = absurd said
      replied_so says.Done is-reply said = absurd said
      replied_so (says.Dropped why) is-reply said = absurd said
      replied_so (says.Again when) is-reply said = absurd said
      replied_so (says.Dead number) is-reply said = absurd said
      replied_so (says.Counts a b c d) is-reply said = absurd said

    published_so : Publishes what events served.reply → IsMessageAnswered pubsub topic served
    published_so (publishing.denied denies gives) =
        said_or (forbidden topic) (denied place component broker (sym allowed_is ∙ denies) (whole ∙ ap (entered (ledger_of served.config place)) gives.0)) (subst (λ t. IsOr (forbidden t) served.reply) for.of_topic gives.1)
    published_so (publishing.lacks stamp allowed are none) = lacks none
    published_so (publishing.refused stamp why allowed other refused are says) =
        said_or (no_event why) (no_event_in stamp.first stamp.second stamp.at why (record { place = place; component = component; broker = broker; other = other; refused = subst (λ sent. IsRefused sent why) sent_is refused }) (stamps_are stamp.first stamp.second stamp.at are)) says
    published_so (publishing.exhausted stamp event values count allowed message are says) = spent (exhausted_so kinds cells (Publish pubsub topic) served is count says)
    published_so (publishing.accepted stamp step allowed accept are says) = replied_so stamp.first stamp.second stamp.at step allowed accept are step.reply refl says

  pub message_answered : IsMessageAnswered pubsub topic served
  message_answered = by (by_route kinds cells (Publish pubsub topic) served is)
    where
      by : AtBroker served.config served.request pubsub topic served.events served.reply ⊎ HasNoMemory served → IsMessageAnswered pubsub topic served
      by (inl (called.no_broker none gives)) = said_or (unknown_pubsub pubsub) (unknown none gives.0) gives.1
      by (inl (called.broker place component named kind ledger)) = published_so place component (record { named = named; kind = kind }) ledger.what ledger.is ledger.steps ledger.whole ledger.publishes
      by (inr none) = lacks none

  -- ---- where all is well

  not_denied : (asked : IsMessageAsked pubsub topic served) (place : ℕ) (component : Loaded) → IsBroker pubsub topic served place component → may_publish component served.config.app topic ≡ false → ⊥
  not_denied asked place component broker denies =
      let same = one_named served.config pubsub place asked.place component asked.component broker.named asked.broker.named in
      let bad : false ≡ true = sym denies ∙ (ap (λ c. may_publish c served.config.app topic) same ∙ asked.allowed) in
      absurd (cc)

  well_so : IsMessageAnswered pubsub topic served → IsAnsweredWhereAllIsWell pubsub topic served
  well_so (unknown none nothing said) asked fresh room = absurd (none asked.place asked.component asked.broker.named asked.broker.kind)
  well_so (denied place component broker denies nothing said) asked fresh room = absurd (not_denied asked place component broker denies)
  well_so (no_event_in first second at why event nothing said) asked fresh room = absurd (asked.an_event why event)
  well_so (full_at rows bytes its said) asked fresh room = absurd (room rows bytes its)
  well_so (accepted number its said) asked fresh room = inl (record { number = number; given = its; said = said })
  well_so (spent e) asked fresh room = absurd (fresh e.count (some_seat served.config served.after.seats e.count served.request e.shown))
  well_so (lacks none) asked fresh room = inr none

  pub well_answered : IsAnsweredWhereAllIsWell pubsub topic served
  well_answered = well_so message_answered

-- ---- a full ledger

-- a ledger answers that it is full exactly where it has no room, and so tells its size
pub no_room_in : (plans : List Plan) (before : List Step) (step : Step) (rows bytes : ℕ) (event : List ℕ) (aims : List Aim) (now : ℕ) → step.cmd ≡ Accept event aims now → step.reply ≡ says.Full rows bytes → IsReply plans (course_of before) step.cmd step.reply → HasNoRoom before step rows bytes
no_room_in plans before step rows bytes event aims now its said-full is =
    let sized = subst (λ reply. IsReply plans (course_of before) (Accept event aims now) reply) said-full (subst (λ cmd. IsReply plans (course_of before) cmd step.reply) its is) in
    record { event = event; aims = aims; now = now; given = its; rows_are = sized.1; bytes_are = sized.2; too_many = subst (λ r. exceeds r bytes ≡ true) (sym sized.1) (subst (λ b. exceeds (rows_in (course_of before).book + new_rows aims) b ≡ true) (sym sized.2) sized.0) }
