use Rattle.std.proofs.Common.{◌≡◌, length, ◌-◌}
use Rattle.http_client.specs.Replies.{ahead}
use Rattle.http_client.proofs.incoming.Incoming.fill_head.Given as goal

abbrev pub invariant-loop-spans : goal.invariant-loop-spans
invariant-loop-spans g l =
    (ahead l.self.pending (g.S.Source.left l.self.source) ≡ ahead l.fn.self.pending (g.S.Source.left l.fn.self.source)) × (g.S.Source.faults l.self.source ≡ g.S.Source.faults l.fn.self.source)

abbrev pub decreases-loop-spans : goal.decreases-loop-spans
decreases-loop-spans g l = 16384 - length l.self.pending
