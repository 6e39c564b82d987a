use Rattle.std.proofs.Common.{◌≡◌, length, ◌-◌}
use Rattle.http_client.specs.Replies.{ahead}
use Rattle.http_client.proofs.incoming.Incoming.fill_to.Given as goal

abbrev pub invariant-loop-self : goal.invariant-loop-self
invariant-loop-self g l =
    (ahead l.self.pending (g.S.Source.left l.self.source) ≡ ahead l.fn.self.pending (g.S.Source.left l.fn.self.source)) × (g.S.Source.faults l.self.source ≡ g.S.Source.faults l.fn.self.source)

abbrev pub decreases-loop-self : goal.decreases-loop-self
decreases-loop-self g l = l.wanted - length l.self.pending
