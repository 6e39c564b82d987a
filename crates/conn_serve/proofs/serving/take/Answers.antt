use Rattle.std.proofs.Common.{Ok, subst}
use Rattle.http_frames.specs.Framing.{IsNext}
use Rattle.conn_serve.specs.Ends.{sink_at, source_at}
use Rattle.conn_serve.proofs.Over.{after_request, after_continue, after_need}
use Rattle.conn_serve.proofs.serving.take.Goals as goal

pub returns-in-Request-clause-after : goal.returns-in-Request-clause-after
returns-in-Request-clause-after g c = λ first source0 sink0 state new stands next going. let a = c.answer.ensures.answered in
    after_request (g.H.Handler.exchange first) (λ xs. g.H.Handler.did first xs c.args.handler.now) (g.H.Handler.shows c.answer.new.handler) source0 (source_at g.S.Source c.args.source.now) (source_at g.S.Source c.args.source.now) sink0 (sink_at g.N.Sink c.args.sink.now) (sink_at g.N.Sink c.answer.new.sink) state new c.args.progress.now.answered c.args.buffers.now.out c.answer.new.out c.args.progress.now.framer going c.answers_go_on.ensures
    (λ xs. g.H.Handler.did first xs c.answer.new.handler) c.in-Request.request stands (subst (λ z. IsNext state (Ok z) new) c.in-Request.is next) c.answer.result a.0 a.1 (g.met.H.Handler.alike first c.args.handler.now _ going.acted c.in-Request.request a.0 a.1 a.2) (λ xs d. g.met.H.Handler.more first c.args.handler.now c.answer.new.handler xs a.0 d a.3) a.4 a.5

pub returns-in-Continue-clause-after : goal.returns-in-Continue-clause-after
returns-in-Continue-clause-after g c = λ first source0 sink0 state new stands next going.
    after_continue (g.H.Handler.exchange first) (λ xs. g.H.Handler.did first xs c.args.handler.now) (g.H.Handler.shows c.args.handler.now) source0 (source_at g.S.Source c.args.source.now) (source_at g.S.Source c.args.source.now) sink0 (sink_at g.N.Sink c.args.sink.now) (sink_at g.N.Sink c.gather_continue.new.sink) state new c.args.progress.now.answered c.args.buffers.now.out c.gather_continue.new.out c.args.progress.now.framer going c.answers_go_on.ensures
    stands (subst (λ z. IsNext state (Ok z) new) c.in-Continue.is next) c.gather_continue.result c.gather_continue.ensures

pub returns-in-Need-clause-after : goal.returns-in-Need-clause-after
returns-in-Need-clause-after g c = λ first source0 sink0 state new stands next going.
    after_need (g.H.Handler.exchange first) (λ xs. g.H.Handler.did first xs c.args.handler.now) (g.H.Handler.shows c.args.handler.now) source0 (source_at g.S.Source c.args.source.now) (source_at g.S.Source c.want.new.source) sink0 (sink_at g.N.Sink c.args.sink.now) (sink_at g.N.Sink c.want.new.sink) state new c.args.progress.now.answered c.args.buffers.now.out c.want.new.out c.want.new.framer going c.answers_go_on.ensures
    c.bytes_go_on.ensures.fed c.between_requests_nothing_is_left.ensures.midway (subst (λ z. IsNext state (Ok z) new) c.in-Need.is next) c.want.result (c.want.ensures new stands)
