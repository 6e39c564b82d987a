use Rattle.std.proofs.Common.{◌∙◌}
use Rattle.pubsub_api.proofs.naming.sent_of.Goals as goal

pub returns : goal.returns
returns c = λ i. record {
  content_type = c.in_ok-content_type.ensures i;
  body = c.in_ok-body.ensures i;
  traceparent = c.in_ok-traceparent.ensures i;
  tracestate = c.in_ok-tracestate.ensures i;
  pubsub = (c.in_ok-pubsub.ensures ∙ c.name.ensures) i;
  topic = c.in_ok-topic.ensures i;
  app = c.in_ok-app.ensures i;
}
