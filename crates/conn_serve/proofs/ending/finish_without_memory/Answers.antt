use Rattle.std.proofs.Common.{refl, subst, ◌++◌}
use Rattle.conn_serve.specs.Ends.{Sent, Cut, wrote, failed, sink_at}
use Rattle.conn_serve.proofs.Moved.{two_sent, sent_then_cut}
use Rattle.conn_serve.proofs.ending.finish_without_memory.Goals as goal

pub returns-in-Ok-send : goal.returns-in-Ok-send
returns-in-Ok-send g c = wrote refl (subst (λ l. Sent (c.args.out.now ++ l) (sink_at g.N.Sink c.args.sink.now) (sink_at g.N.Sink c.send-in-Ok.new.sink)) c.no_memory_response.ensures
    (two_sent c.args.out.now c.no_memory_response.result.now (sink_at g.N.Sink c.args.sink.now) (sink_at g.N.Sink c.send.new.sink) (sink_at g.N.Sink c.send-in-Ok.new.sink)
    (subst (λ l. Sent l (sink_at g.N.Sink c.args.sink.now) (sink_at g.N.Sink c.send.new.sink)) c.bytes.ensures (record { told = c.in-Ok.ensures.all; no_fault = c.in-Ok.ensures.no_fault }))
    (record { told = c.in-Ok-send.ensures.all; no_fault = c.in-Ok-send.ensures.no_fault })))

pub returns-in-Err-send : goal.returns-in-Err-send
returns-in-Err-send g c = failed refl (subst (λ l. Cut (c.args.out.now ++ l) (sink_at g.N.Sink c.args.sink.now) (sink_at g.N.Sink c.send-in-Ok.new.sink)) c.no_memory_response.ensures
    (sent_then_cut c.args.out.now c.no_memory_response.result.now (sink_at g.N.Sink c.args.sink.now) (sink_at g.N.Sink c.send.new.sink) (sink_at g.N.Sink c.send-in-Ok.new.sink)
    (subst (λ l. Sent l (sink_at g.N.Sink c.args.sink.now) (sink_at g.N.Sink c.send.new.sink)) c.bytes.ensures (record { told = c.in-Ok.ensures.all; no_fault = c.in-Ok.ensures.no_fault }))
    (record { front = c.in-Err-send.ensures.some; failed = c.in-Err-send.ensures.failed })))
