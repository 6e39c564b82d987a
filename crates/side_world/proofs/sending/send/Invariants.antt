use Rattle.std.proofs.Common.{length, ◌-◌}
use Rattle.side_world.proofs.Sent.{SentSoFar}
use Rattle.side_world.proofs.sending.send.Given as goal

abbrev pub invariant-loop-sent : goal.invariant-loop-sent
invariant-loop-sent g l =
    SentSoFar (g.N.Sink.contents l.fn.sink) (g.N.Sink.contents l.sink) (g.N.Sink.faults l.fn.sink) (g.N.Sink.faults l.sink) l.bytes l.sent

abbrev pub decreases-loop-sent : goal.decreases-loop-sent
decreases-loop-sent g l = length l.bytes - l.sent
