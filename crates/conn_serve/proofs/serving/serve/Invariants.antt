use Rattle.std.proofs.Common.{◌<◌}
use Rattle.http_frames.specs.Framing.{State, Stands}
use Rattle.conn_serve.specs.Ends.{sink_at, source_at}
use Rattle.conn_serve.specs.Going.{Going}
use Rattle.conn_serve.proofs.serving.serve.Given as goal

abbrev pub invariant-loop : goal.invariant-loop
invariant-loop g l = record {
  can : (goal.iterator-loop g).can_next l.iterator';
  ends : (goal.iterator-loop g).is_finite l.iterator';
  ready : g.H.Handler.ready l.handler;
  below : l.progress.answered < 100000;
  state : State;
  stands : Stands state l.progress.framer;
  going : Going (g.H.Handler.exchange l.initial.handler) (λ xs. g.H.Handler.did l.initial.handler xs l.handler) (source_at g.S.Source l.initial.source) (source_at g.S.Source l.source) (sink_at g.N.Sink l.initial.sink) (sink_at g.N.Sink l.sink) state l.progress.answered l.buffers.out;
}
