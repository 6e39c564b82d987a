use Rattle.std.proofs.Common.{[], false, sym, subst, arith}
use Rattle.http_frames.specs.Framing.{waiting}
use Rattle.conn_serve.specs.Ends.{sink_at, source_at}
use Rattle.conn_serve.specs.Going.{Going, After}
use Rattle.conn_serve.proofs.Going.{begun, none_of}
use Rattle.conn_serve.proofs.serving.serve.Goals as goal

pub loop-init : goal.loop-init
loop-init g c = record {
  can = tt;
  ends = tt;
  ready = c.requires;
  below = omega arith;
  state = waiting [] false;
  stands = c.new.ensures;
  going = subst (λ l. Going (g.H.Handler.exchange c.args.handler.now) (λ xs. g.H.Handler.did c.args.handler.now xs c.args.handler.now) (source_at g.S.Source c.args.source.now) (source_at g.S.Source c.args.source.now) (sink_at g.N.Sink c.args.sink.now) (sink_at g.N.Sink c.args.sink.now) (waiting [] false) 0 l) (sym c.empty.ensures)
      (begun (g.H.Handler.exchange c.args.handler.now) (λ xs. g.H.Handler.did c.args.handler.now xs c.args.handler.now) (source_at g.S.Source c.args.source.now) (sink_at g.N.Sink c.args.sink.now) (g.met.H.Handler.none c.args.handler.now c.requires) c.bytes_go_on.ensures.made);
}

pub returns-in-Some-turn : goal.returns-in-Some-turn
returns-in-Some-turn g c = let h = c.loop.invariant in c.in-Some-turn.ensures.after c.args.handler.now (source_at g.S.Source c.args.source.now) (sink_at g.N.Sink c.args.sink.now) h.state h.stands h.going

pub loop-preserved : goal.loop-preserved
loop-preserved g c =
    let h = c.loop.invariant in
    let goes-on = none_of c.turn.result c.in_default.not-Some in
    let after = subst (λ z. After (g.H.Handler.exchange c.args.handler.now) (λ xs. g.H.Handler.did c.args.handler.now xs c.turn.new.handler) (g.H.Handler.shows c.turn.new.handler) (source_at g.S.Source c.args.source.now) (source_at g.S.Source c.turn.new.source) (sink_at g.N.Sink c.args.sink.now) (sink_at g.N.Sink c.turn.new.sink) c.turn.new.progress.framer c.turn.new.progress.answered c.turn.new.buffers.out z) goes-on
    (c.turn.ensures.after c.args.handler.now (source_at g.S.Source c.args.source.now) (sink_at g.N.Sink c.args.sink.now) h.state h.stands h.going) in record {
      can = tt;
      ends = tt;
      ready = c.turn.ensures.ready;
      below = c.turn.ensures.below goes-on;
      state = after.0;
      stands = after.1;
      going = after.2;
    }
