use Rattle.std.proofs.Common.{◌≡◌, ◌≤◌, length, ◌-◌}
use Rattle.http_client.specs.Replies.{ahead}
use Rattle.http_client.proofs.incoming.Incoming.fill_lines.Given as goal

abbrev pub invariant-loop-line : goal.invariant-loop-line
invariant-loop-line g l =
    (ahead l.self.pending (g.S.Source.left l.self.source) ≡ ahead l.fn.self.pending (g.S.Source.left l.fn.self.source)) × (g.S.Source.faults l.self.source ≡ g.S.Source.faults l.fn.self.source)
    × (length l.fn.self.pending ≤ length l.self.pending)

abbrev pub decreases-loop-line : goal.decreases-loop-line
decreases-loop-line g l = 16384 - length l.self.pending
