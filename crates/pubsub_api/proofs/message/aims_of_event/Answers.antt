use Rattle.std.proofs.Common.{◌≡◌, subst}
use Rattle.std.specs.Prelude.{IfSome}
use Rattle.rule_value.specs.Values.{Event}
use Rattle.topic_spec.specs.Aiming.{aims_of}
use Rattle.pubsub_api.proofs.message.aims_of_event.Goals as goal

pub returns-in-Some-clause-aims : goal.returns-in-Some-clause-aims
returns-in-Some-clause-aims c values its =
    let event : Event = record { bytes = c.args.event.now; values = values } in
    subst (λ found. IfSome found (λ aims. aims ≡ aims_of event c.args.pubsub.now c.args.topic.now c.args.subs.now)) c.in-Some.is (c.in-Ok.ensures.aims event)
