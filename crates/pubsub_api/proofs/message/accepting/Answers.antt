use Rattle.std.proofs.Common.{◌≡◌, sym, subst}
use Rattle.json_text.specs.Forest.{Forest}
use Rattle.cloud_events.specs.Wrapped.{IsRead}
use Rattle.topic_spec.specs.Aiming.{aims_of}
use Rattle.pubsub_api.proofs.Messages.{accepts, event_read}
use Rattle.pubsub_api.proofs.message.accepting.Goals as goal

pub aims_of_event-requires : goal.aims_of_event-requires
aims_of_event-requires c =
    subst (λ bytes. (values : Forest) × IsRead bytes values) (sym c.bytes.ensures)
    (event_read c.an_event_is_read_again.ensures c.args.sent.now c.args.id.now c.args.event c.args.now c.requires c.texts_are_utf8.ensures)

pub returns-in-Ok-clause-commands : goal.returns-in-Ok-clause-commands
returns-in-Ok-clause-commands c stamp its-id its-now =
    let its = event_read c.an_event_is_read_again.ensures c.args.sent.now c.args.id.now c.args.event c.args.now c.requires c.texts_are_utf8.ensures in
    let aims = c.in-Ok.ensures.aims its.0 (subst (λ bytes. IsRead bytes its.0) (sym c.bytes.ensures) its.1) in
    accepts c.args.subs.now c.args.sent.now c.args.id.now c.args.event c.args.now stamp its.0 c.shared.result c.in-Ok.aims c.requires its.1 its-id its-now c.shared.ensures
    (subst (λ bytes. c.in-Ok.aims ≡ aims_of (record { bytes = bytes; values = its.0 }) c.args.sent.now.pubsub c.args.sent.now.topic c.args.subs.now) c.bytes.ensures aims)
