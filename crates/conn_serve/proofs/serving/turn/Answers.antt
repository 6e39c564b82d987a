use Rattle.conn_serve.specs.Ends.{sink_at, source_at}
use Rattle.conn_serve.proofs.Over.{after_refusal}
use Rattle.conn_serve.proofs.serving.turn.Goals as goal

pub returns-in-Ok-clause-after : goal.returns-in-Ok-clause-after
returns-in-Ok-clause-after g c = λ first source0 sink0 state stands going. let a = c.in-Ok.ensures state stands in
    c.take.ensures.after first source0 sink0 state a.new a.stands a.next going

pub returns-in-Err-clause-after : goal.returns-in-Err-clause-after
returns-in-Err-clause-after g c = λ first source0 sink0 state stands going. let a = c.in-Err.ensures state stands in
    after_refusal (g.H.Handler.exchange first) (λ xs. g.H.Handler.did first xs c.args.handler.now) (g.H.Handler.shows c.args.handler.now) source0 (source_at g.S.Source c.args.source.now) (source_at g.S.Source c.args.source.now) sink0 (sink_at g.N.Sink c.args.sink.now) (sink_at g.N.Sink c.refuse.new.sink) state a.new c.args.progress.now.answered c.args.buffers.now.out c.refuse.new.out c.next.new.self going c.answers_go_on.ensures
    c.in-Err.why c.refuse.result a.next c.refuse.ensures
