use Rattle.std.proofs.Common.{◌≡◌}
use Rattle.net_edge.proofs.call_stream.CallSink.write_in_time.Given as goal

abbrev pub invariant-loop : goal.invariant-loop
invariant-loop l = l.self.faults ≡ l.fn.self.faults
