use Rattle.std.proofs.Common.{ap, Some, ◌∙◌}
use Rattle.sidecar_cli.specs.Drill.{stop_of}
use Rattle.sidecar_cli.specs.Status.{status_after}
use Rattle.sidecar_cli.proofs.Drilled.{into_sink, lone_drilled, stops, writes}
use Rattle.sidecar_cli.proofs.drilling.session.Goals as goal

pub close-requires-clause-lone : goal.close-requires-clause-lone
close-requires-clause-lone g c κs within = lone_drilled c.served-ended.ensures c.requires.lone

pub returns-in-None : goal.returns-in-None
returns-in-None g c = record {
  after = c.served-ended.new.pass;
  out = c.served-ended.new.sink.contents;
  faults = c.served-ended.new.sink.faults;
  ended = c.served-ended.result;
  served = into_sink (ap (λ s. record { contents = Some s.contents; faults = s.faults }) c.new-sink.ensures) c.served-ended.ensures;
  closed = c.close.ensures.closed;
  ends = writes _ c.stop_of.result c.served-ended.new.sink (c.stop_of.ensures ∙ ap (λ s. stop_of (status_after c.served-ended.result s)) c.spent-spent.ensures) c.in-None.is;
}

pub returns-in-Some : goal.returns-in-Some
returns-in-Some g c = record {
  after = c.served-ended.new.pass;
  out = c.served-ended.new.sink.contents;
  faults = c.served-ended.new.sink.faults;
  ended = c.served-ended.result;
  served = into_sink (ap (λ s. record { contents = Some s.contents; faults = s.faults }) c.new-sink.ensures) c.served-ended.ensures;
  closed = c.close.ensures.closed;
  ends = stops _ c.stop_of.result c.served-ended.new.sink.contents c.in-Some.status (c.stop_of.ensures ∙ ap (λ s. stop_of (status_after c.served-ended.result s)) c.spent-spent.ensures) c.in-Some.is;
}
